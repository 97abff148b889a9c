use Rattle.page_marks.proofs.Bounded.{all-wider}
use Rattle.page_marks.proofs.laws.bounds_law.Goals as goal

pub returns : goal.returns
returns c inner outer inside marks within = all-wider inner outer inside marks within
