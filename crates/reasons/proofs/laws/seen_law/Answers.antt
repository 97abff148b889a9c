use Rattle.reasons.proofs.OnBoard.{goes-by-sight}
use Rattle.reasons.proofs.laws.seen_law.Goals as goal

pub returns : goal.returns
returns c = goes-by-sight
