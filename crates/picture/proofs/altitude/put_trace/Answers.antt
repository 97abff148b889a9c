use Rattle.picture.specs.Altitude.{course_paint, course_points}
use Rattle.svg_text.specs.declared.shapes.Outline.TheVariants as outlines
use Rattle.picture.proofs.altitude.put_trace.Goals as goal

pub returns : goal.returns
returns g c =
    let own = c.args.own in
    let end = rw c.course_paint.ensures at c.end_points.ensures in
    g.met.D.Drawing.whole _ _ _ _ outlines.Open (course_points c.args.axis c.args.encounter.now own) (course_paint own) c.args.title.now c.begin_points.ensures c.put_points.ensures end
