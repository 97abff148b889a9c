use Rattle.comparison.proofs.Once.{split-once}
use Rattle.comparison.proofs.laws.split_law.Goals as goal

pub returns : goal.returns
returns c = split-once
