use Rattle.std.specs.Prelude.{map}
use Rattle.std.specs.List.{range_with_len}
use Rattle.seconds_panel.specs.Lines.{row_length, series_paint, value_point}
use Rattle.svg_text.specs.declared.shapes.Outline.TheVariants as outlines
use Rattle.seconds_panel.proofs.lines.put_row_line.Goals as goal

pub returns : goal.returns
returns g c =
    let run = c.args.seconds.now in
    let end = rw c.paint.ensures at c.end_points.ensures in
    g.met.D.Drawing.whole _ _ _ _ outlines.Open (map (value_point c.args.top run.encounter run.pair c.args.series) (range_with_len c.args.row.first (row_length c.args.row))) (series_paint c.args.series) c.args.title.now c.begin_points.ensures c.put_points.ensures end
