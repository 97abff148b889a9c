use Rattle.std.proofs.Common.{◌≡◌, ◌+◌, ◌*◌, ◌≤◌, ◌++◌, length}
use Rattle.std.specs.Prelude.{take}
use Rattle.svg_text.specs.Escaped.{escaped}
use Rattle.svg_text.proofs.escaped.add_escaped.Given as goal

-- The words so far were added.
abbrev pub invariant-loop-byte : goal.invariant-loop-byte
invariant-loop-byte l = record {
  added : l.line ≡ l.fn.line ++ escaped (take l.byte-index l.words);
  short : length l.line ≤ length l.fn.line + 5 * l.byte-index;
}
