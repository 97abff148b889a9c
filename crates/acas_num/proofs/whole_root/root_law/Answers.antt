use Rattle.acas_num.proofs.Roots.{root-is, only-root}
use Rattle.acas_num.proofs.whole_root.root_law.Goals as goal

pub returns-clause-greatest : goal.returns-clause-greatest
returns-clause-greatest c = root-is

pub returns-clause-only : goal.returns-clause-only
returns-clause-only c = only-root
