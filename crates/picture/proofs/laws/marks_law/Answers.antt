use Rattle.picture.proofs.Marking.{are-marked}
use Rattle.picture.proofs.laws.marks_law.Goals as goal

pub returns : goal.returns
returns c it cycles = are-marked it cycles
