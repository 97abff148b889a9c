use Rattle.std.proofs.Common.{◌≡◌, ◌<◌, ℕ}
use Rattle.std.specs.Prelude.{option_copied}
use Rattle.comparison.specs.Cells.{cell_of}
use Rattle.comparison.proofs.cells.first_in_commit.Given as goal

-- The cells so far are the same.
abbrev pub invariant-loop-place : goal.invariant-loop-place
invariant-loop-place l = (k : ℕ) → k < l.place → cell_of (option_copied l.one) k ≡ cell_of (option_copied l.other) k
