use Rattle.vert_test.proofs.Hitting.{hits-altitude}
use Rattle.vert_test.proofs.altitude.alt_test_law.Goals as goal

pub returns : goal.returns
returns c = hits-altitude
