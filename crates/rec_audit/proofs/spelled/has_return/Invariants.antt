use Rattle.std.proofs.Common.{◌≡◌, drop}
use Rattle.rec_audit.specs.Explaining.{has_return}
use Rattle.rec_audit.proofs.spelled.has_return.Given as goal

abbrev pub invariant-loop-byte : goal.invariant-loop-byte
invariant-loop-byte l = has_return l.fn.text ≡ has_return (drop l.byte-index l.fn.text)
