use Rattle.std.proofs.Common.{length}
use Rattle.rec_audit.proofs.Cutting.{Skips}
use Rattle.rec_audit.proofs.opening.skip_part.Given as goal

abbrev pub invariant-loop-line : goal.invariant-loop-line
invariant-loop-line l = Skips l.fn.lines l.lines

abbrev pub decreases-loop-line : goal.decreases-loop-line
decreases-loop-line l = length l.lines.left
