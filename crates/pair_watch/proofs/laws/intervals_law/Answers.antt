use Rattle.pair_watch.proofs.Cutting.{cut-into-intervals}
use Rattle.pair_watch.proofs.laws.intervals_law.Goals as goal

pub returns : goal.returns
returns c journal = cut-into-intervals journal
