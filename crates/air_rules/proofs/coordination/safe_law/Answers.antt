use Rattle.air_rules.proofs.coordination.safe_law.Goals as goal
use Rattle.air_rules.proofs.Safety.{safe}

pub returns : goal.returns
returns c air journal l = safe air journal l
