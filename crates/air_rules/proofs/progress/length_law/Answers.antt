use Rattle.air_rules.proofs.progress.length_law.Goals as goal
use Rattle.air_rules.proofs.Longest.{bounded}

pub returns : goal.returns
returns c air journal sound l = bounded air journal sound l
