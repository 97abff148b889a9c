use Rattle.summary.proofs.Turning.{true-turns}
use Rattle.summary.proofs.laws.turns_law.Goals as goal

pub returns : goal.returns
returns c air journal legal = true-turns air journal legal
