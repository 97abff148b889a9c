use Rattle.pieces.proofs.OneList.{one-list}
use Rattle.pieces.proofs.laws.cut_law.Goals as goal

pub returns : goal.returns
returns c bytes one other = one-list one other bytes
