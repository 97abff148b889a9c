use Rattle.reasons.proofs.OnBoard.{goes-by-hearing}
use Rattle.reasons.proofs.laws.heard_law.Goals as goal

pub returns : goal.returns
returns c = goes-by-hearing
