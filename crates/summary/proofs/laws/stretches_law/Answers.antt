use Rattle.summary.proofs.Stretching.{are-stretches}
use Rattle.summary.proofs.laws.stretches_law.Goals as goal

pub returns : goal.returns
returns c air journal legal own other = are-stretches air journal legal own other
