use Rattle.pair_watch.proofs.Lapsing.{true-causes}
use Rattle.pair_watch.proofs.laws.lapsed_law.Goals as goal

pub returns : goal.returns
returns c air journal sound l = true-causes air journal sound l
