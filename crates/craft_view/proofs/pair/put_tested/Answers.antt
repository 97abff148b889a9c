use Rattle.std.proofs.Common.{Bool, true, false, ap, ◌∙◌}
use Rattle.std.specs.Option.{option_copied}
use Rattle.craft_view.proofs.Showing.{shown-resolving, shown-unresolved}
use Rattle.craft_view.specs.Views.{asks_for, plain_view}
use Rattle.craft_view.proofs.pair.put_tested.Goals as goal

pub returns-in-None : goal.returns-in-None
returns-in-None c =
    c.put_plain.ensures ∙ ap (λ (b : Bool). plain_view true b false) c.shows_traffic.ensures
    ∙ shown-unresolved (asks_for (option_copied c.args.before) c.args.target) c.args.own.now c.args.motion.now c.in-None.is

pub returns-in-Some : goal.returns-in-Some
returns-in-Some c = c.put_resolving.ensures ∙ shown-resolving (asks_for (option_copied c.args.before) c.args.target) c.args.own.now c.args.motion.now c.in-Some.row c.in-Some.is
