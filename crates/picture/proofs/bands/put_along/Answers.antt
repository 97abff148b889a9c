use Rattle.std.proofs.Common.{◌++◌}
use Rattle.picture.specs.Bands.{far_edge, near_edge}
use Rattle.svg_text.specs.declared.shapes.Outline.TheVariants as outlines
use Rattle.picture.proofs.bands.put_along.Goals as goal

pub returns : goal.returns
returns g c =
    let e = c.args.course.encounter.now in
    let own = c.args.course.own in
    let row = c.args.row in
    let points = g.met.D.Drawing.more_points _ _ _ _ _ c.put_near.ensures c.put_far.ensures in
    g.met.D.Drawing.whole _ _ _ _ outlines.Closed (near_edge c.args.course.axis e own row ++ far_edge c.args.course.axis e own c.args.side c.args.depth row) c.args.paint c.args.title.now c.begin_points.ensures points c.end_points.ensures
