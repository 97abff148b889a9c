use Rattle.std.proofs.Common.{replicate, ap}
use Rattle.outcomes.proofs.crews.nothing_kept.Goals as goal

pub returns : goal.returns
returns c = ap (replicate 9616) c.clear.ensures
