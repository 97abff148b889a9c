use Rattle.std.proofs.Common.{◌≤◌, ◌<◌, ℕ, ◌+◌}
use Rattle.flight.specs.Flight.{position}
use Rattle.flight.specs.Inside.{IsInBox}
use Rattle.fault_text.proofs.leaving.leaves_in.Given as goal

-- The aircraft is in the box in each cycle so far.
abbrev pub invariant-loop-before : goal.invariant-loop-before
invariant-loop-before l = (k : ℕ) → 1 ≤ k → k < l.before + 1 → IsInBox (position l.encounter l.craft k)
