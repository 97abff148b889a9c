use Rattle.std.proofs.Common.{ℕ, ◌<◌, ◌≤◌}
use Rattle.flight.specs.Flight.{position}
use Rattle.flight.specs.Inside.{IsInBox}
use Rattle.flight.proofs.flying.inside.Given as goal

-- The aircraft so far stay in the box.
abbrev pub invariant-loop-craft : goal.invariant-loop-craft
invariant-loop-craft l = (craft cycle : ℕ) → craft < l.craft → 1 ≤ cycle → cycle ≤ l.encounter.cycles → IsInBox (position l.encounter craft cycle)
