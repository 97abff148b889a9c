use Rattle.std.proofs.Common.{◌≡◌, drop}
use Rattle.fault_text.specs.Hints.{has_digit}
use Rattle.fault_text.proofs.hints.has_digit.Given as goal

abbrev pub invariant-loop-byte : goal.invariant-loop-byte
invariant-loop-byte l = has_digit l.fn.found ≡ has_digit (drop l.byte-index l.fn.found)
