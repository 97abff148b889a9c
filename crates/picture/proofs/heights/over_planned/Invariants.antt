use Rattle.std.proofs.Common.{◌≡◌, ◌-◌, ◌≤◌, unsigned_abs}
use Rattle.picture.specs.Heights.{height_in, over_flight}
use Rattle.picture.proofs.heights.over_planned.Given as goal

-- Those of the cycles so far.
abbrev pub invariant-loop-cycle : goal.invariant-loop-cycle
invariant-loop-cycle l = (l.span ≡ over_flight (height_in l.encounter l.own) l.fn.before (l.cycle - 1)) × ((unsigned_abs l.span.low ≤ 32000000) × (unsigned_abs l.span.high ≤ 32000000))
