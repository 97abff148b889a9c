use Rattle.std.proofs.Common.{length}
use Rattle.labels.proofs.split.+value_with.Given as goal

abbrev pub decreases-value_with : goal.decreases-value_with
decreases-value_with l = length l.words.now
