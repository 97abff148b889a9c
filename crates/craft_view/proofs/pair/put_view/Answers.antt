use Rattle.std.proofs.Common.{false, ap, sym, ◌∙◌}
use Rattle.std.specs.Option.{option_copied}
use Rattle.craft_view.proofs.Showing.{shown-tested, shown-untested}
use Rattle.craft_view.specs.Views.{asks_for, plain_view}
use Rattle.craft_view.proofs.pair.put_view.Goals as goal

pub returns-in-None : goal.returns-in-None
returns-in-None c =
    c.put_plain.ensures ∙ ap (plain_view false false) c.is_some.ensures
    ∙ shown-untested (asks_for (option_copied c.args.before) c.args.target) c.args.own.now c.args.altitude.now c.args.tracks.now (sym c.motion_of.ensures.value ∙ c.in-None.is)

pub returns-in-Some : goal.returns-in-Some
returns-in-Some c = c.put_tested.ensures ∙ shown-tested (asks_for (option_copied c.args.before) c.args.target) c.args.own.now c.args.altitude.now c.args.tracks.now c.in-Some.motion (sym c.motion_of.ensures.value ∙ c.in-Some.is)
