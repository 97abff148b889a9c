use Rattle.std.proofs.Common.{length}
use Rattle.labels.proofs.split.+is_keyed.Given as goal

abbrev pub decreases-is_keyed : goal.decreases-is_keyed
decreases-is_keyed l = length l.words.now
