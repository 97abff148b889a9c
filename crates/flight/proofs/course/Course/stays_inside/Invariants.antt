use Rattle.std.proofs.Common.{◌≡◌, ℕ, ◌≤◌}
use Rattle.flight.specs.Bounds.{begins}
use Rattle.flight.specs.Flight.{place_in}
use Rattle.flight.specs.Inside.{IsInBox}
use Rattle.flight.proofs.course.Course.stays_inside.Given as goal

-- Where it is when the next leg begins, and that it is in the box until then.
abbrev pub invariant-loop-index : goal.invariant-loop-index
invariant-loop-index l = record {
  place : l.place ≡ place_in l.self.start l.self.legs.now (begins l.self.legs.now l.index l.cycles);
  in_box : (cycle : ℕ) → 1 ≤ cycle → cycle ≤ begins l.self.legs.now l.index l.cycles → IsInBox (place_in l.self.start l.self.legs.now cycle);
}
