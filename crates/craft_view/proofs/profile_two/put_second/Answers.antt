use Rattle.std.proofs.Common.{◌≡◌, true, false, sym, ap, ◌∙◌}
use Rattle.std.specs.Option.{option_copied}
use Rattle.acas_base.specs.declared.view.View.{View}
use Rattle.craft_view.proofs.Showing.{shown-asked, shown-outline, shown-threat, whole-again}
use Rattle.craft_view.specs.Views.{asks_for, second_view, with_separations}
use Rattle.craft_view.proofs.profile_two.put_second.Goals as goal

pub returns-then-asks_for : goal.returns-then-asks_for
returns-then-asks_for c =
    let own = c.args.own.now in
    let m = c.args.motion.now in
    let view = second_view own m c.args.row.now in
    c.put_separations-then-asks_for.ensures ∙ ap (with_separations own m) c.put_outline.ensures.value ∙ whole-again own m c.args.row.now
    ∙ shown-asked (asks_for (option_copied c.args.before) c.args.target) view (sym c.asks_for.ensures ∙ c.if-asks_for.true)

pub returns-else-asks_for : goal.returns-else-asks_for
returns-else-asks_for c =
    let view = second_view c.args.own.now c.args.motion.now c.args.row.now in
    let calm : view.threat ≡ false = sym (ap (λ (v : View). v.threat) c.put_outline.ensures.value) ∙ c.if-view.false in
    c.put_outline.ensures.value ∙ shown-outline (asks_for (option_copied c.args.before) c.args.target) view (sym c.asks_for.ensures ∙ c.if-asks_for.false) calm

pub returns-then-view : goal.returns-then-view
returns-then-view c =
    let own = c.args.own.now in
    let m = c.args.motion.now in
    let view = second_view own m c.args.row.now in
    let threat : view.threat ≡ true = sym (ap (λ (v : View). v.threat) c.put_outline.ensures.value) ∙ c.if-view.true in
    c.put_separations.ensures ∙ ap (with_separations own m) c.put_outline.ensures.value ∙ whole-again own m c.args.row.now ∙ shown-threat (asks_for (option_copied c.args.before) c.args.target) view threat
