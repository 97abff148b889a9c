use Rattle.std.proofs.Common.{◌≡◌, ◌+◌, ◌≤◌, ℕ, List, ◌++◌, length, false}
use Rattle.fault_text.specs.Lines.{file_lines, lines_after, written}
use Rattle.fault_text.proofs.lines.record_count.Given as goal

-- The lines that were cut off stand before those of the rest.
abbrev pub invariant-loop-rest : goal.invariant-loop-rest
invariant-loop-rest l = record {
  before : List (List ℕ);
  whole : file_lines l.fn.text ≡ before ++ lines_after false l.rest;
  count : l.count ≡ length (written before);
  room : l.count + length l.rest ≤ length l.fn.text;
}

abbrev pub decreases-loop-rest : goal.decreases-loop-rest
decreases-loop-rest l = length l.rest
