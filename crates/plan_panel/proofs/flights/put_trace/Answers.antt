use Rattle.plan_panel.specs.Marks.{flight_paint, flight_points}
use Rattle.svg_text.specs.declared.shapes.Outline.TheVariants as outlines
use Rattle.plan_panel.proofs.flights.put_trace.Goals as goal

pub returns : goal.returns
returns g c =
    let own = c.args.own in
    let end = rw c.flight_paint.ensures at c.end_points.ensures in
    g.met.D.Drawing.whole _ _ _ _ outlines.Open (flight_points c.args.chart.top c.args.chart.encounter.now own) (flight_paint own) c.args.title.now c.begin_points.ensures c.put_points.ensures end
