use Rattle.std.proofs.Common.{◌≡◌, drop}
use Rattle.rec_audit.proofs.spelled.skip.Given as goal

abbrev pub invariant-loop : goal.invariant-loop
invariant-loop l = l.lines.left ≡ drop l.counter l.fn.lines.left
