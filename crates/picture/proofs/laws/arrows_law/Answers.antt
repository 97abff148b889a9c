use Rattle.picture.proofs.Changing.{are-arrows}
use Rattle.picture.proofs.laws.arrows_law.Goals as goal

pub returns : goal.returns
returns c e journal valid legal = are-arrows e journal
