use Rattle.std.proofs.Common.{◌≡◌, ◌≤◌, unsigned_abs}
use Rattle.picture.specs.Heights.{height_in, over_flights}
use Rattle.picture.proofs.heights.all_heights.Given as goal

-- Those of the aircraft so far.
abbrev pub invariant-loop-own : goal.invariant-loop-own
invariant-loop-own l = (l.span ≡ over_flights (height_in l.encounter) l.encounter.cycles (record { low = height_in l.encounter 0 1; high = height_in l.encounter 0 1 }) l.own) × ((unsigned_abs l.span.low ≤ 32000000) × (unsigned_abs l.span.high ≤ 32000000))
