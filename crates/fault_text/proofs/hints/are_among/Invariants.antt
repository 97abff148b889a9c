use Rattle.std.proofs.Common.{◌≡◌, drop}
use Rattle.fault_text.specs.Hints.{are_among}
use Rattle.fault_text.proofs.hints.are_among.Given as goal

abbrev pub invariant-loop-byte : goal.invariant-loop-byte
invariant-loop-byte l = are_among l.fn.others l.fn.found ≡ are_among l.fn.others (drop l.byte-index l.fn.found)
