use Rattle.std.proofs.Common.{◌≡◌, ◌+◌, ◌≤◌, ℕ, List, ◌++◌, length, false}
use Rattle.fault_text.specs.Lines.{file_lines, lines_after, up_to_last, written}
use Rattle.fault_text.proofs.lines.place_of.Given as goal

-- The lines that were cut off stand before those of the rest.
abbrev pub invariant-loop-rest : goal.invariant-loop-rest
invariant-loop-rest l = record {
  before : List (List ℕ);
  whole : file_lines l.fn.text ≡ before ++ lines_after false l.rest;
  number : l.number ≡ length before + 1;
  behind : l.behind ≡ up_to_last before + 1;
  left : l.left + length (written before) ≡ l.fn.at;
  some : 1 ≤ l.left;
  room : length before + length l.rest ≤ length l.fn.text;
}

abbrev pub decreases-loop-rest : goal.decreases-loop-rest
decreases-loop-rest l = length l.rest
