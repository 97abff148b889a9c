use Rattle.strength_pick.proofs.Finding.{weakened, next-found}
use Rattle.strength_pick.proofs.laws.next_law.Goals as goal

pub returns-clause-weakens : goal.returns-clause-weakens
returns-clause-weakens c = weakened

pub returns-clause-goes_on : goal.returns-clause-goes_on
returns-clause-goes_on c = next-found
