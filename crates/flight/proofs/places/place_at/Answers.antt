use Rattle.std.proofs.Common.{◌∙◌, arith}
use Rattle.flight.proofs.Placing.{position-past}
use Rattle.flight.proofs.places.place_at.Goals as goal

pub returns-clause-value : goal.returns-clause-value
returns-clause-value c = c.no_place.ensures.value ∙ position-past c.args.encounter.now c.args.craft c.args.cycle (search arith)
