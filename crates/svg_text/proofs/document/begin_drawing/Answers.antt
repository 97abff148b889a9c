use Rattle.svg_text.proofs.document.begin_drawing.Goals as goal

pub returns-clause-head : goal.returns-clause-head
returns-clause-head g c =
    let root = rw c.root_line.ensures at c.line.ensures in
    let title = rw c.title_line.ensures at c.line-2.ensures in
    let description = rw c.description_line.ensures at c.line-3.ensures in
    g.met.S.LineSink.then _ _ _ _ _ root (g.met.S.LineSink.then _ _ _ _ _ title (g.met.S.LineSink.then _ _ _ _ _ description
    (g.met.S.LineSink.then _ _ _ _ _ c.put_definitions.ensures c.put_background.ensures)))
