use Rattle.std.proofs.Common.{◌≡◌, take}
use Rattle.std.specs.Prelude.{map}
use Rattle.leg_rows.specs.Flights.{crafts_at}
use Rattle.leg_rows.proofs.starts.crafts_at.Given as goal

-- The aircraft so far.
abbrev pub invariant-loop-index : goal.invariant-loop-index
invariant-loop-index l = l.made.items ≡ crafts_at (take l.index l.crafts) (map (λ row. row.items) (take l.index l.rows))
