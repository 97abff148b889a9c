use Rattle.std.proofs.Common.{◌∙◌}
use Rattle.flight.proofs.flying.position.Goals as goal

pub returns-clause-value : goal.returns-clause-value
returns-clause-value c = c.place_in.ensures.value ∙ (rw c.from.ensures at c.of.ensures c.args.cycle)
