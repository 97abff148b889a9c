use Rattle.std.proofs.Common.{◌+◌, ◌∙◌}
use Rattle.craft_view.proofs.Showing.{whole-picture}
use Rattle.craft_view.proofs.craft.Craft.look_among.Goals as goal

pub returns-clause-picture : goal.returns-clause-picture
returns-clause-picture c = c.look_into.ensures.picture ∙ whole-picture c.args.places.now.encounter c.args.self.now.own (c.args.self.now.cycle + 1)
