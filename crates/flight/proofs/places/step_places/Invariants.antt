use Rattle.std.proofs.Common.{◌≡◌, ◌+◌, ◌<◌, ◌≤◌, ℕ, length, slice_index_or}
use Rattle.acas_base.specs.declared.TheConstants.{CRAFTS}
use Rattle.flight.specs.Bounds.{IsReachable}
use Rattle.flight.specs.Flight.{position}
use Rattle.flight.specs.declared.place.Place.{Place}
use Rattle.flight.proofs.places.step_places.Given as goal

-- The places of the aircraft so far are those in the cycle, and the others are as they were.
abbrev pub invariant-loop-craft : goal.invariant-loop-craft
invariant-loop-craft l = record {
  size : length l.places ≡ CRAFTS;
  done : (k : ℕ) (d : Place) → k < l.craft → slice_index_or l.places k d ≡ position l.encounter k (l.cycle + 1);
  reachable : (k : ℕ) → k < l.craft → IsReachable (position l.encounter k (l.cycle + 1));
  rest : (k : ℕ) (d : Place) → l.craft ≤ k → slice_index_or l.places k d ≡ slice_index_or l.initial.places k d;
}
