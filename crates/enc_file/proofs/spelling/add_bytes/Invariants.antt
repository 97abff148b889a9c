use Rattle.std.proofs.Common.{◌≡◌, ◌+◌, ◌++◌, length, take}
use Rattle.enc_file.proofs.spelling.add_bytes.Given as goal

-- The bytes so far were added.
abbrev pub invariant-loop-byte : goal.invariant-loop-byte
invariant-loop-byte l = record {
  added : l.line ≡ l.fn.line ++ take l.byte-index l.bytes;
  longer : length l.line ≡ length l.fn.line + l.byte-index;
}
