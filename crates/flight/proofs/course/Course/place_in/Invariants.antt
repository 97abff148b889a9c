use Rattle.std.proofs.Common.{◌≡◌}
use Rattle.flight.specs.Bounds.{begins}
use Rattle.flight.specs.Flight.{place_in}
use Rattle.flight.proofs.course.Course.place_in.Given as goal

-- Where it is when the next leg begins.
abbrev pub invariant-loop-index : goal.invariant-loop-index
invariant-loop-index l = l.place ≡ place_in l.self.start l.self.legs.now (begins l.self.legs.now l.index l.cycle)
