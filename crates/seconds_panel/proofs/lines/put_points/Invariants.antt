use Rattle.std.specs.Prelude.{map}
use Rattle.std.specs.List.{range_with_len}
use Rattle.seconds_panel.specs.Lines.{value_point}
use Rattle.seconds_panel.proofs.lines.put_points.Given as goal

-- It passed through the points of the cycles so far.
abbrev pub invariant-loop-step : goal.invariant-loop-step
invariant-loop-step g l = g.D.Drawing.passed l.fn.drawing l.drawing (map (value_point l.top l.seconds.encounter l.seconds.pair l.series) (range_with_len l.row.first l.step))
