use Rattle.std.specs.List.{flat_map, range_with_len}
use Rattle.plan_panel.specs.Marks.{flight_marks}
use Rattle.plan_panel.proofs.flights.put_flights.Given as goal

-- Those of the aircraft so far were put.
abbrev pub invariant-loop-own : goal.invariant-loop-own
invariant-loop-own g l = g.D.Drawing.drew l.fn.drawing l.drawing (flat_map (flight_marks l.chart.top l.chart.encounter.now l.chart.time.start l.labels) (range_with_len 0 l.own))
