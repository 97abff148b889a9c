use Rattle.std.proofs.Common.{sym, ◌∙◌}
use Rattle.std.specs.Option.{option_copied}
use Rattle.craft_view.proofs.Showing.{shown-asked, shown-outline, shown-threat}
use Rattle.craft_view.specs.Views.{asks_for, first_view}
use Rattle.craft_view.proofs.pair.put_first.Goals as goal

pub returns-then-threat : goal.returns-then-threat
returns-then-threat c =
    let view = first_view c.args.own.now c.args.motion.now c.args.row.now in
    c.put_whole.ensures ∙ shown-threat (asks_for (option_copied c.args.before) c.args.target) view (sym c.is_hit-threat.ensures ∙ c.if-threat.true)

pub returns-then-asks_for : goal.returns-then-asks_for
returns-then-asks_for c =
    let view = first_view c.args.own.now c.args.motion.now c.args.row.now in
    c.put_whole-then-asks_for.ensures ∙ shown-asked (asks_for (option_copied c.args.before) c.args.target) view (sym c.asks_for.ensures ∙ c.if-asks_for.true)

pub returns-else-asks_for : goal.returns-else-asks_for
returns-else-asks_for c =
    let view = first_view c.args.own.now c.args.motion.now c.args.row.now in
    c.put_outline.ensures
    ∙ shown-outline (asks_for (option_copied c.args.before) c.args.target) view (sym c.asks_for.ensures ∙ c.if-asks_for.false) (sym c.is_hit-threat.ensures ∙ c.if-threat.false)
