use Rattle.page_marks.proofs.Ticking.{good-ticks}
use Rattle.page_marks.proofs.laws.ticks_law.Goals as goal

pub returns : goal.returns
returns c bounds cycles start place holds = good-ticks bounds cycles start place holds
