use Rattle.equal_rows.proofs.Rowing.{are-rows}
use Rattle.equal_rows.proofs.laws.rows_law.Goals as goal

pub returns : goal.returns
returns c shows goes_on cycles run = are-rows shows goes_on cycles run
