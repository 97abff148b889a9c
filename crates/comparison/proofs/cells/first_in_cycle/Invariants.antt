use Rattle.std.proofs.Common.{◌<◌, ℕ}
use Rattle.comparison.specs.Cells.{IsSameCell}
use Rattle.comparison.proofs.cells.first_in_cycle.Given as goal

-- The cells of the commits so far are the same.
abbrev pub invariant-loop-own : goal.invariant-loop-own
invariant-loop-own l = (k j : ℕ) → k < l.own → j < l.count → IsSameCell l.one.journal l.other.journal l.cycle k j
