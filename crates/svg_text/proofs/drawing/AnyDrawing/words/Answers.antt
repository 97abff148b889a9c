use Rattle.std.proofs.Common.{sym, subst}
use Rattle.std.proofs.lemmas.List.{append-nil}
use Rattle.svg_text.specs.Marks.{mark_lines, marks_lines, worded_lines}
use Rattle.svg_text.proofs.drawing.AnyDrawing.words.Goals as goal

pub returns : goal.returns
unfolding marks_lines mark_lines
returns g c =
    let one = rw c.lettering_line.ensures at c.line.ensures in
    let two = rw c.words_line.ensures at c.line-2.ensures in
    let last = rw c.end_line.ensures at c.line-3.ensures in
    let all = g.met.S.LineSink.then _ _ _ _ _ one (g.met.S.LineSink.then _ _ _ _ _ c.put_title.ensures (g.met.S.LineSink.then _ _ _ _ _ two last)) in
    (subst (g.S.LineSink.took c.args.self.now c.line-3.new.self) (sym (append-nil (worded_lines c.args.lettering.now c.args.words.now c.args.title.now))) all, (c.lettering_fits.ensures, tt))
