use Rattle.std.proofs.Common.{length}
use Rattle.labels.proofs.split.+name_count.Given as goal

abbrev pub decreases-name_count : goal.decreases-name_count
decreases-name_count l = length l.words.now
