use Rattle.std.proofs.Common.{◌≡◌}
use Rattle.std.specs.Prelude.{All, map}
use Rattle.std.specs.List.{range_with_len}
use Rattle.flight.specs.Inside.{IsInBox}
use Rattle.variants.specs.Flights.{late_place}
use Rattle.variants.proofs.flights.late_places.Given as goal

-- The places in the cycles so far.
abbrev pub invariant-loop-cycle : goal.invariant-loop-cycle
invariant-loop-cycle l = record {
  items : l.places.items ≡ map (late_place l.encounter l.craft l.late) (range_with_len 1 l.cycle);
  boxed : All IsInBox l.places.items;
}
