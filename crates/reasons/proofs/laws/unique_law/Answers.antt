use Rattle.reasons.proofs.Explaining.{once}
use Rattle.reasons.proofs.laws.unique_law.Goals as goal

pub returns : goal.returns
returns c = once
