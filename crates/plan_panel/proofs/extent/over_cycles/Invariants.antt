use Rattle.std.proofs.Common.{◌≡◌, ◌-◌}
use Rattle.plan_panel.specs.Places.{IsExtent, over_cycles}
use Rattle.plan_panel.proofs.extent.over_cycles.Given as goal

-- With the places in the cycles so far.
abbrev pub invariant-loop-cycle : goal.invariant-loop-cycle
invariant-loop-cycle l = (l.extent ≡ over_cycles l.encounter l.own l.fn.before (l.cycle - 1)) × IsExtent l.extent
