use Rattle.flight.proofs.Slants.{only-slant, slant-is}
use Rattle.flight.proofs.measuring.slant_range_law.Goals as goal

pub returns-clause-greatest : goal.returns-clause-greatest
returns-clause-greatest c = slant-is

pub returns-clause-only : goal.returns-clause-only
returns-clause-only c = only-slant
