use Rattle.std.proofs.Common.{◌-◌}
use Rattle.std.specs.Prelude.{map}
use Rattle.std.specs.List.{range_with_len}
use Rattle.picture.specs.Bands.{edge_point, reach_end}
use Rattle.picture.proofs.bands.put_far.Given as goal

-- It passed through so many points.
abbrev pub invariant-loop-back : goal.invariant-loop-back
invariant-loop-back g l =
    g.D.Drawing.passed l.fn.drawing l.drawing
    (map (λ k. edge_point l.course.axis l.course.encounter.now l.course.own l.side l.depth (reach_end l.course.encounter.now.cycles l.fn.row - k)) (range_with_len 0 l.back))
