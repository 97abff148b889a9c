use Rattle.std.proofs.Common.{◌≡◌, ◌+◌, length}
use Rattle.rec_audit.specs.Explaining.{first_return}
use Rattle.rec_audit.proofs.spelled.first_return.Given as goal

abbrev pub invariant-loop-line : goal.invariant-loop-line
invariant-loop-line l = record {
  number_is : l.number ≡ l.left.taken + 1;
  rest : first_return (l.fn.lines.taken + 1) l.fn.lines.left ≡ first_return (l.left.taken + 1) l.left.left;
}

abbrev pub decreases-loop-line : goal.decreases-loop-line
decreases-loop-line l = length l.left.left
