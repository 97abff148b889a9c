use Rattle.std.proofs.Common.{◌≡◌}
use Rattle.plan_panel.specs.Names.{lies_over_some}
use Rattle.plan_panel.proofs.names.lies_over_some.Given as goal

-- Whether it lies over one of the aircraft so far.
abbrev pub invariant-loop-other : goal.invariant-loop-other
invariant-loop-other l = l.over ≡ lies_over_some l.chart.top l.chart.encounter.now l.own l.cycle l.other
