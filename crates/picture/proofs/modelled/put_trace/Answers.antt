use Rattle.picture.specs.Modelled.{modelled_paint, modelled_points}
use Rattle.svg_text.specs.declared.shapes.Outline.TheVariants as outlines
use Rattle.picture.proofs.modelled.put_trace.Goals as goal

pub returns : goal.returns
returns g c =
    let end = rw c.modelled_paint.ensures at c.end_points.ensures in
    g.met.D.Drawing.whole _ _ _ _ outlines.Open (modelled_points c.args.axis c.args.state.now.encounter c.args.state.now.journal c.args.own c.args.passed) modelled_paint c.args.title.now c.begin_points.ensures c.put_points.ensures end
