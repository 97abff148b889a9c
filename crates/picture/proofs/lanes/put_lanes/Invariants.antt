use Rattle.std.specs.List.{flat_map, range_with_len}
use Rattle.picture.specs.Bars.{craft_marks}
use Rattle.picture.proofs.lanes.put_lanes.Given as goal

-- The lanes of the aircraft so far were put.
abbrev pub invariant-loop-own : goal.invariant-loop-own
invariant-loop-own g l = g.D.Drawing.drew l.fn.drawing l.drawing (flat_map (craft_marks l.labels l.state.encounter l.state.journal) (range_with_len 0 l.own))
