use Rattle.std.proofs.Common.{◌≡◌}
use Rattle.plan_panel.specs.Places.{IsExtent, over_crafts}
use Rattle.plan_panel.proofs.extent.extent_of.Given as goal

-- With those of the aircraft so far.
abbrev pub invariant-loop-own : goal.invariant-loop-own
invariant-loop-own l = (l.extent ≡ over_crafts l.encounter l.own) × IsExtent l.extent
