use Rattle.reasons.proofs.Explaining.{commit-explained}
use Rattle.reasons.proofs.laws.reason_law.Goals as goal

pub returns : goal.returns
returns c = commit-explained
