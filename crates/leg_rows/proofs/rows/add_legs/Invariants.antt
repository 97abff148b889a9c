use Rattle.std.proofs.Common.{◌≡◌, ◌++◌}
use Rattle.leg_rows.specs.Rows.{legs_by, rates_from}
use Rattle.leg_rows.proofs.rows.add_legs.Given as goal

-- The legs that begin in a cycle so far.
abbrev pub invariant-loop-second : goal.invariant-loop-second
invariant-loop-second l = l.legs.items ≡ l.fn.legs.items ++ legs_by l.craft (rates_from l.places) 1 l.second
