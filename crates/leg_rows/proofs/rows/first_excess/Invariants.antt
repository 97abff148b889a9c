use Rattle.std.proofs.Common.{ℕ, ◌≤◌}
use Rattle.leg_rows.specs.Rows.{AreLegRates, rates_from}
use Rattle.leg_rows.proofs.rows.first_excess.Given as goal

-- From each cycle so far a leg can lead to the next.
abbrev pub invariant-loop-second : goal.invariant-loop-second
invariant-loop-second l = (cycle : ℕ) → 1 ≤ cycle → cycle ≤ l.second → AreLegRates (rates_from l.places cycle)
