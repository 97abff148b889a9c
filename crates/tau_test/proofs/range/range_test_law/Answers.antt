use Rattle.tau_test.proofs.Hitting.{hits-range}
use Rattle.tau_test.proofs.range.range_test_law.Goals as goal

pub returns : goal.returns
returns c = hits-range
