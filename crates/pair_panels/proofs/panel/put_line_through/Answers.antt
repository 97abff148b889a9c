use Rattle.std.specs.Prelude.{map}
use Rattle.std.specs.List.{range_with_len}
use Rattle.page_marks.specs.Paints.{ink, line_paint}
use Rattle.pair_panels.specs.Panel.{value_point}
use Rattle.svg_text.specs.declared.shapes.Outline.TheVariants as outlines
use Rattle.pair_panels.proofs.panel.put_line_through.Goals as goal

pub returns : goal.returns
returns g c =
    let color = rw c.ink.ensures at c.line_paint.ensures in
    let end = rw color at c.end_points.ensures in
    g.met.D.Drawing.whole _ _ _ _ outlines.Open (map (value_point c.args.top c.args.encounter.now c.args.distance c.args.pair c.args.ticks) (range_with_len 1 c.args.encounter.now.cycles)) (line_paint ink 30) c.args.title.now c.begin_points.ensures c.put_points.ensures end
