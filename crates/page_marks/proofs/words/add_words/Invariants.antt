use Rattle.std.proofs.Common.{◌≡◌, ◌+◌, ◌++◌, length, take}
use Rattle.page_marks.proofs.words.add_words.Given as goal

-- The bytes so far were added.
abbrev pub invariant-loop-byte : goal.invariant-loop-byte
invariant-loop-byte l = (l.line ≡ l.fn.line ++ take l.byte-index l.words) × (length l.line ≡ length l.fn.line + l.byte-index)
