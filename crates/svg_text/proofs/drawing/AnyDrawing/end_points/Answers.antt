use Rattle.std.proofs.Common.{List, ℕ, ◌∷◌, [], ap, ◌∙◌, subst}
use Rattle.svg_text.specs.Marks.{end_line}
use Rattle.svg_text.proofs.drawing.AnyDrawing.end_points.Goals as goal

pub returns : goal.returns
returns g c =
    let one = rw c.after_points_line.ensures at c.line.ensures in
    let end = c.end_line.ensures ∙ ap end_line c.outline_element.ensures in
    let last = subst (λ (l : List ℕ). g.S.LineSink.took c.put_title.new.sink c.line-2.new.self (l ∷ [])) end c.line-2.ensures in
    (g.met.S.LineSink.then _ _ _ _ _ one (g.met.S.LineSink.then _ _ _ _ _ c.put_title.ensures last), c.paint_fits.ensures)
