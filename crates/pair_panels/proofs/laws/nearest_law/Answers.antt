use Rattle.pair_panels.proofs.Best.{nearest-is}
use Rattle.pair_panels.proofs.laws.nearest_law.Goals as goal

pub returns : goal.returns
returns c e valid = nearest-is e valid
