use Rattle.std.specs.List.{flat_map}
use Rattle.picture.specs.Marked.{marked_among}
use Rattle.picture.specs.MarkedDrawn.{row_of}
use Rattle.picture.proofs.marked_drawn.put_list.Given as goal

-- Those of the places so far were put.
abbrev pub invariant-loop-place : goal.invariant-loop-place
invariant-loop-place g l = g.D.Drawing.drew l.fn.drawing l.drawing (flat_map (row_of l.top l.labels l.axis.cycles) (marked_among l.labels l.axis.cycles l.place))
