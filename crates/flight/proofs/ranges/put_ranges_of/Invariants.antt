use Rattle.std.proofs.Common.{◌≡◌, ◌+◌, ◌*◌, ◌<◌, ℕ, length, slice_index_or}
use Rattle.acas_base.specs.declared.TheConstants.{CRAFTS}
use Rattle.flight.specs.Flight.{nowhere}
use Rattle.flight.specs.Measurement.{AreSlantRanges, slant_range}
use Rattle.flight.proofs.ranges.put_ranges_of.Given as goal

-- The ranges of the aircraft at the index are put as far as to those that come before `earlier`.
abbrev pub invariant-loop-earlier : goal.invariant-loop-earlier
invariant-loop-earlier l = record {
  size : length l.ranges ≡ 256;
  before : AreSlantRanges l.initial.places l.index l.initial.ranges → AreSlantRanges l.places l.index l.ranges;
  own : slice_index_or l.ranges (l.index * CRAFTS + l.index) 0 ≡ 0;
  to : (k : ℕ) → k < l.earlier → slice_index_or l.ranges (k * CRAFTS + l.index) 0 ≡ slant_range (slice_index_or l.places k nowhere) (slice_index_or l.places l.index nowhere);
  from : (k : ℕ) → k < l.earlier → slice_index_or l.ranges (l.index * CRAFTS + k) 0 ≡ slant_range (slice_index_or l.places l.index nowhere) (slice_index_or l.places k nowhere);
}
