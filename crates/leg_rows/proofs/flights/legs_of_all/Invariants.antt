use Rattle.std.proofs.Common.{◌≡◌, take}
use Rattle.std.specs.Prelude.{map}
use Rattle.leg_rows.specs.Flights.{legs_from}
use Rattle.leg_rows.proofs.flights.legs_of_all.Given as goal

-- The legs of the aircraft so far.
abbrev pub invariant-loop-craft : goal.invariant-loop-craft
invariant-loop-craft l = l.legs.items ≡ legs_from 0 (map (λ row. row.items) (take l.craft l.rows))
