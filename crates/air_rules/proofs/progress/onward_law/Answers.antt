use Rattle.air_rules.proofs.progress.onward_law.Goals as goal
use Rattle.air_rules.proofs.NeverStuck.{never-stuck}

pub returns : goal.returns
returns c air journal sound l = never-stuck air journal sound l
