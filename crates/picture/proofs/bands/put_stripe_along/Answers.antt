use Rattle.picture.specs.Bands.{near_edge, stripe_paint}
use Rattle.svg_text.specs.declared.shapes.Outline.TheVariants as outlines
use Rattle.picture.proofs.bands.put_stripe_along.Goals as goal

pub returns : goal.returns
returns g c =
    let end = rw c.stripe_paint.ensures at c.end_points.ensures in
    g.met.D.Drawing.whole _ _ _ _ outlines.Open (near_edge c.args.course.axis c.args.course.encounter.now c.args.course.own c.args.row) stripe_paint c.args.title.now c.begin_points.ensures c.put_near.ensures end
