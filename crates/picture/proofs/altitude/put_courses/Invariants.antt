use Rattle.std.specs.List.{flat_map, range_with_len}
use Rattle.picture.specs.Altitude.{course_marks}
use Rattle.picture.proofs.altitude.put_courses.Given as goal

-- The lines of the aircraft so far were put.
abbrev pub invariant-loop-own : goal.invariant-loop-own
invariant-loop-own g l = g.D.Drawing.drew l.fn.drawing l.drawing (flat_map (course_marks l.axis l.labels l.encounter) (range_with_len 0 l.own))
