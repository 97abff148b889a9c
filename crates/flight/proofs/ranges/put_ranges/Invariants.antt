use Rattle.flight.specs.Measurement.{AreSlantRanges}
use Rattle.flight.proofs.ranges.put_ranges.Given as goal

abbrev pub invariant-loop-index : goal.invariant-loop-index
invariant-loop-index l = record { done : AreSlantRanges l.places l.index l.ranges }
