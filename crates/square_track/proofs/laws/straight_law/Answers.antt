use Rattle.square_track.proofs.Straight.{begins, goes-on, misses}
use Rattle.square_track.proofs.laws.straight_law.Goals as goal

pub returns-clause-begins : goal.returns-clause-begins
returns-clause-begins c = begins

pub returns-clause-goes_on : goal.returns-clause-goes_on
returns-clause-goes_on c = goes-on

pub returns-clause-misses : goal.returns-clause-misses
returns-clause-misses c = misses
