use Rattle.picture.specs.MessagesDrawn.{head_points}
use Rattle.page_marks.specs.Paints.{filled}
use Rattle.svg_text.specs.declared.shapes.Outline.TheVariants as outlines
use Rattle.picture.proofs.messages_drawn.put_head.Goals as goal

pub returns : goal.returns
returns g c =
    let color = c.args.color in
    let end = rw c.filled.ensures at c.end_points.ensures in
    g.met.D.Drawing.whole _ _ _ _ outlines.Closed (head_points c.args.shaft) (filled color color 30) c.args.title.now c.begin_points.ensures c.put_head_points.ensures end
