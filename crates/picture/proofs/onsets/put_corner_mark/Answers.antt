use Rattle.picture.specs.Onsets.{corners, onset_paint}
use Rattle.svg_text.specs.declared.shapes.Outline.TheVariants as outlines
use Rattle.picture.proofs.onsets.put_corner_mark.Goals as goal

pub returns : goal.returns
returns g c =
    let kind = c.args.advised in
    let end = rw c.onset_paint.ensures at c.end_points.ensures in
    g.met.D.Drawing.whole _ _ _ _ outlines.Closed (corners kind c.args.x c.args.y) (onset_paint kind) c.args.title.now c.begin_points.ensures c.put_corners.ensures end
