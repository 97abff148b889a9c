use Rattle.std.specs.Prelude.{map}
use Rattle.std.specs.List.{range_with_len}
use Rattle.picture.specs.Altitude.{course_point}
use Rattle.picture.proofs.bands.put_near.Given as goal

-- It passed through the points of the cycles so far.
abbrev pub invariant-loop-step : goal.invariant-loop-step
invariant-loop-step g l = g.D.Drawing.passed l.fn.drawing l.drawing (map (course_point l.course.axis l.course.encounter.now l.course.own) (range_with_len l.row.first l.step))
