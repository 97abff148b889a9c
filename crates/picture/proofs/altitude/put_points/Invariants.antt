use Rattle.std.proofs.Common.{◌-◌}
use Rattle.std.specs.Prelude.{map}
use Rattle.std.specs.List.{range_with_len}
use Rattle.picture.specs.Altitude.{course_point}
use Rattle.picture.proofs.altitude.put_points.Given as goal

-- It passed through the points of the cycles so far.
abbrev pub invariant-loop-cycle : goal.invariant-loop-cycle
invariant-loop-cycle g l = g.D.Drawing.passed l.fn.drawing l.drawing (map (course_point l.axis l.encounter l.own) (range_with_len 1 (l.cycle - 1)))
