use Rattle.plan_panel.proofs.scale_bar.put_bar_at.Goals as goal

pub returns : goal.returns
returns g c =
    let from = rw c.point_at.ensures at c.figure.ensures in
    let to = rw c.point_at-2.ensures at from in
    let paint = rw c.line_paint.ensures at to in
    let one = rw c.ink.ensures at paint in
    let two = rw c.point_at-3.ensures at c.put_words.ensures in
    g.met.D.Drawing.then _ _ _ _ _ one two
