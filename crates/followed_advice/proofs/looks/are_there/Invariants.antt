use Rattle.std.proofs.Common.{◌≡◌, ℕ, ◌<◌, []}
use Rattle.std.specs.Prelude.{map, slice_index_or}
use Rattle.flight.specs.Flight.{position}
use Rattle.leg_rows.specs.Rows.{place_of}
use Rattle.followed_advice.proofs.looks.are_there.Given as goal

-- The aircraft so far are there.
abbrev pub invariant-loop-own : goal.invariant-loop-own
invariant-loop-own l = (own : ℕ) → own < l.own → position l.flown own l.cycle ≡ place_of (slice_index_or (map (λ row. row.items) l.rows) own []) l.cycle
