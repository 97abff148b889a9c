use Rattle.std.proofs.Common.{◌-◌}
use Rattle.std.specs.List.{flat_map, range_with_len}
use Rattle.plan_panel.specs.Marks.{tick_marks}
use Rattle.plan_panel.proofs.flights.put_ticks.Given as goal

-- The dots of the cycles so far were put.
abbrev pub invariant-loop-cycle : goal.invariant-loop-cycle
invariant-loop-cycle g l = g.D.Drawing.drew l.fn.drawing l.drawing (flat_map (tick_marks l.chart.top l.chart.encounter.now l.chart.time.start l.own l.address) (range_with_len 1 (l.cycle - 1)))
