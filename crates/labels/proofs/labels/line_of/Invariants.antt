use Rattle.std.proofs.Common.{◌≡◌, length, take}
use Rattle.labels.proofs.labels.line_of.Given as goal

-- The bytes so far were added.
abbrev pub invariant-loop-byte : goal.invariant-loop-byte
invariant-loop-byte l = (l.line ≡ take l.byte-index l.bytes) × (length l.line ≡ l.byte-index)
