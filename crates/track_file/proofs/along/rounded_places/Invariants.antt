use Rattle.std.proofs.Common.{◌≡◌}
use Rattle.std.specs.Prelude.{All}
use Rattle.flight.specs.Inside.{IsInBox}
use Rattle.track_file.specs.Along.{rounded_row}
use Rattle.track_file.proofs.along.rounded_places.Given as goal

-- The places in the cycles so far.
abbrev pub invariant-loop-second : goal.invariant-loop-second
invariant-loop-second l = record {
  items : l.places.items ≡ rounded_row l.second l.points;
  boxed : All IsInBox l.places.items;
}
