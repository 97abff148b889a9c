use Rattle.std.proofs.Common.{◌≡◌, ◌+◌, ◌≤◌, ◌++◌, length, take}
use Rattle.std.specs.List.{flat_map}
use Rattle.verdict_text.specs.Sentences.{visible}
use Rattle.verdict_text.proofs.pieces.add_quoted.Given as goal

abbrev pub invariant-loop-byte : goal.invariant-loop-byte
invariant-loop-byte l = record {
  added : l.line ≡ l.initial.line ++ flat_map visible (take l.byte-index l.byte-items);
  short : length l.line ≤ length l.initial.line + l.byte-index;
}
