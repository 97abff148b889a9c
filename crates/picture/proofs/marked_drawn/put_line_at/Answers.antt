use Rattle.std.proofs.Common.{ap, ◌∙◌}
use Rattle.page_marks.specs.Places.{point_at}
use Rattle.picture.proofs.marked_drawn.put_line_at.Goals as goal

pub returns : goal.returns
returns g c =
    let to = c.point_at-2.ensures ∙ ap (point_at c.args.x) c.plot_bottom.ensures.value in
    let from = rw c.point_at.ensures at c.figure.ensures in
    let line = rw to at from in
    let painted = rw c.dashed_paint.ensures at line in
    rw c.note.ensures at painted
