use Rattle.deliveries.proofs.Marking.{are-rows}
use Rattle.deliveries.proofs.laws.rows_law.Goals as goal

pub returns : goal.returns
returns c = are-rows
