use Rattle.std.proofs.Common.{◌≡◌, take}
use Rattle.std.specs.Prelude.{All, map}
use Rattle.flight.specs.Inside.{IsInBox}
use Rattle.track_file.specs.Along.{rounded_rows}
use Rattle.track_file.proofs.along.rows_of.Given as goal

-- The places of the aircraft so far.
abbrev pub invariant-loop-craft : goal.invariant-loop-craft
invariant-loop-craft l = record {
  items : map (λ row. row.items) l.rows.items ≡ rounded_rows l.cycles (map (λ points. points.items) (take l.craft l.tracks));
  boxed : All (λ row. All IsInBox row.items) l.rows.items;
}
