use Rattle.std.proofs.Common.{◌≡◌}
use Rattle.std.specs.Prelude.{All, map}
use Rattle.std.specs.List.{range_with_len}
use Rattle.flight.specs.Bounds.{IsReachable}
use Rattle.flight.specs.Flight.{position}
use Rattle.leg_rows.proofs.places.places_of.Given as goal

-- The places in the cycles so far.
abbrev pub invariant-loop-cycle : goal.invariant-loop-cycle
invariant-loop-cycle l = record {
  items : l.places.items ≡ map (position l.encounter l.craft) (range_with_len 1 l.cycle);
  reachable : All IsReachable l.places.items;
}
