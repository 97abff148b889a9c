use Rattle.reasons.proofs.Explaining.{explained}
use Rattle.reasons.proofs.laws.rule_law.Goals as goal

pub returns : goal.returns
returns c = explained
