use Rattle.std.proofs.Common.{◌-◌}
use Rattle.std.specs.Prelude.{map}
use Rattle.std.specs.List.{range_with_len}
use Rattle.pair_panels.specs.Panel.{value_point}
use Rattle.pair_panels.proofs.panel.put_points.Given as goal

-- It passed through the points of the cycles so far.
abbrev pub invariant-loop-cycle : goal.invariant-loop-cycle
invariant-loop-cycle g l = g.D.Drawing.passed l.fn.drawing l.drawing (map (value_point l.top l.encounter l.distance l.pair l.ticks) (range_with_len 1 (l.cycle - 1)))
