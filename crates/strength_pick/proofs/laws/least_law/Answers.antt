use Rattle.strength_pick.proofs.Finding.{least-found}
use Rattle.strength_pick.proofs.laws.least_law.Goals as goal

pub returns : goal.returns
returns c = least-found
