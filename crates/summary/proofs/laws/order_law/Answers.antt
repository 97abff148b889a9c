use Rattle.summary.proofs.Ordering.{in-order}
use Rattle.summary.proofs.laws.order_law.Goals as goal

pub returns : goal.returns
returns c e journal = in-order e journal
