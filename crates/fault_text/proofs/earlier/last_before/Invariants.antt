use Rattle.std.proofs.Common.{◌≡◌, ◌+◌, ◌≤◌, ℕ, List, ◌++◌, length, false}
use Rattle.fault_text.specs.Before.{IsLastIn}
use Rattle.fault_text.specs.Lines.{file_lines, lines_after, written}
use Rattle.fault_text.proofs.earlier.last_before.Given as goal

-- The lines that were cut off stand before those of the rest, and what was found is the last that passes the test.
abbrev pub invariant-loop-left : goal.invariant-loop-left
invariant-loop-left g l = record {
  before : List (List ℕ);
  whole : file_lines l.fn.text ≡ before ++ lines_after false l.rest;
  number : l.number ≡ length before + 1;
  left : l.left + length (written before) ≡ l.fn.at;
  some : 1 ≤ l.left;
  room : length before + length l.rest ≤ length l.fn.text;
  found : IsLastIn (g.T.LineTest.holds l.fn.test) before l.found;
}

abbrev pub decreases-loop-left : goal.decreases-loop-left
decreases-loop-left g l = length l.rest
