use Rattle.std.proofs.Common.{◌≡◌}
use Rattle.flight.specs.Approach.{IsFirstLeast, range_between}
use Rattle.flight.proofs.approach.closest_approach.Given as goal

-- The first cycle so far with the least range, and that range.
abbrev pub invariant-loop-earlier : goal.invariant-loop-earlier
invariant-loop-earlier l = record {
  range : l.range ≡ range_between l.encounter l.a l.b l.cycle;
  closest : IsFirstLeast (range_between l.encounter l.a l.b) l.earlier l.cycle;
}
