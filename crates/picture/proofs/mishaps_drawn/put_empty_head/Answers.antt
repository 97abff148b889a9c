use Rattle.picture.specs.MessagesDrawn.{head_points}
use Rattle.page_marks.specs.Paints.{ink, line_paint}
use Rattle.svg_text.specs.declared.shapes.Outline.TheVariants as outlines
use Rattle.picture.proofs.mishaps_drawn.put_empty_head.Goals as goal

pub returns : goal.returns
returns g c =
    let painted = rw c.line_paint.ensures at c.end_points.ensures in
    let end = rw c.ink.ensures at painted in
    g.met.D.Drawing.whole _ _ _ _ outlines.Closed (head_points c.args.shaft) (line_paint ink 30) c.args.title.now c.begin_points.ensures c.put_head_points.ensures end
