use Rattle.std.proofs.Common.{sym, ap, ◌∙◌}
use Rattle.std.specs.Option.{option_copied}
use Rattle.acas_base.specs.declared.setting.Profile.{Profile}
use Rattle.craft_view.specs.Views.{asks_for, first_view, in_profile, second_view, shown}
use Rattle.craft_view.proofs.pair.put_resolving.Goals as goal

pub returns-in-One : goal.returns-in-One
returns-in-One c =
    let one = first_view c.args.own.now c.args.motion.now c.args.row.now in
    let two = second_view c.args.own.now c.args.motion.now c.args.row.now in
    c.put_first.ensures ∙ ap (λ (p : Profile). shown (asks_for (option_copied c.args.before) c.args.target) (in_profile p one two)) (sym c.in-One.is)

pub returns-in-Two : goal.returns-in-Two
returns-in-Two c =
    let one = first_view c.args.own.now c.args.motion.now c.args.row.now in
    let two = second_view c.args.own.now c.args.motion.now c.args.row.now in
    c.put_second.ensures ∙ ap (λ (p : Profile). shown (asks_for (option_copied c.args.before) c.args.target) (in_profile p one two)) (sym c.in-Two.is)
