use Rattle.std.proofs.Common.{◌≤◌, ℕ}
use Rattle.comparison.specs.Cells.{IsSameCycle}
use Rattle.comparison.proofs.cells.first_cell.Given as goal

-- The cells of the cycles so far are the same.
abbrev pub invariant-loop-before : goal.invariant-loop-before
invariant-loop-before l = (cycle : ℕ) → 1 ≤ cycle → cycle ≤ l.before → IsSameCycle l.count l.one.journal l.other.journal cycle
