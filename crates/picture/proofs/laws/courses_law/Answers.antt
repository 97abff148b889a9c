use Rattle.picture.proofs.Axis.{are-courses}
use Rattle.picture.proofs.laws.courses_law.Goals as goal

pub returns : goal.returns
returns c e J = are-courses e J
