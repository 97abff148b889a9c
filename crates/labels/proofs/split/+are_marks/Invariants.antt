use Rattle.std.proofs.Common.{length}
use Rattle.labels.proofs.split.+are_marks.Given as goal

abbrev pub decreases-are_marks : goal.decreases-are_marks
decreases-are_marks l = length l.words.now
