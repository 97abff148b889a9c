use Rattle.reasons.proofs.OnBoard.{goes-by-both}
use Rattle.reasons.proofs.laws.on_board_law.Goals as goal

pub returns : goal.returns
returns c = goes-by-both
