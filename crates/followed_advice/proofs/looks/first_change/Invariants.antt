use Rattle.std.proofs.Common.{ℕ, ◌≤◌}
use Rattle.std.specs.Prelude.{map}
use Rattle.followed_advice.specs.Keeping.{AreThere}
use Rattle.followed_advice.proofs.looks.first_change.Given as goal

-- In the cycles so far all are there.
abbrev pub invariant-loop-second : goal.invariant-loop-second
invariant-loop-second l = (cycle : ℕ) → 1 ≤ cycle → cycle ≤ l.second → AreThere l.flown (map (λ row. row.items) l.rows) cycle
