use Rattle.std.proofs.Common.{◌≡◌, ◌+◌, ◌++◌, ◌≤◌, length}
use Rattle.std.specs.List.{flat_map, range_with_len}
use Rattle.outcomes.specs.Lines.{letter_of}
use Rattle.outcomes.proofs.lines.add_letters.Given as goal

-- The letters of the aircraft so far were added.
abbrev pub invariant-loop-own : goal.invariant-loop-own
invariant-loop-own l = record {
  added : l.line ≡ l.initial.line ++ flat_map (letter_of l.crafts l.list) (range_with_len 0 l.own);
  short : length l.line ≤ length l.initial.line + l.own;
}
