use Rattle.flight.proofs.Boxed.{stays-inside}
use Rattle.flight.proofs.flying.inside_law.Goals as goal

pub returns : goal.returns
returns c = stays-inside
