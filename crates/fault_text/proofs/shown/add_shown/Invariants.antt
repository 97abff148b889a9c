use Rattle.std.proofs.Common.{◌≡◌, ◌+◌, ◌*◌, ◌≤◌, ◌++◌, length, take}
use Rattle.std.specs.List.{flat_map}
use Rattle.fault_text.specs.Shown.{glyphs}
use Rattle.fault_text.proofs.shown.add_shown.Given as goal

abbrev pub invariant-loop-byte : goal.invariant-loop-byte
invariant-loop-byte l = record {
  added : l.line ≡ l.initial.line ++ flat_map glyphs (take l.byte-index l.byte-items);
  short : length l.line ≤ length l.initial.line + 4 * l.byte-index;
}
