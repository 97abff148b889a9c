use Rattle.std.proofs.Common.{List, ℕ, ◌∷◌, [], sym, ap, ◌∙◌, subst}
use Rattle.std.proofs.lemmas.List.{append-nil}
use Rattle.svg_text.specs.Marks.{end_line, figure_lines, mark_lines, marks_lines}
use Rattle.svg_text.proofs.drawing.AnyDrawing.figure.Goals as goal

pub returns : goal.returns
unfolding marks_lines mark_lines
returns g c =
    let one = rw c.shape_line.ensures at c.line.ensures in
    let end = c.end_line.ensures ∙ ap end_line c.shape_element.ensures in
    let last = subst (λ (l : List ℕ). g.S.LineSink.took c.put_title.new.sink c.line-2.new.self (l ∷ [])) end c.line-2.ensures in
    let all = g.met.S.LineSink.then _ _ _ _ _ one (g.met.S.LineSink.then _ _ _ _ _ c.put_title.ensures last) in
    (subst (g.S.LineSink.took c.args.self.now c.line-2.new.self) (sym (append-nil (figure_lines c.args.shape c.args.paint c.args.title.now))) all, ((c.shape_fits.ensures, c.paint_fits.ensures), tt))
