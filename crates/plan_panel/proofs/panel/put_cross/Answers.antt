use Rattle.plan_panel.proofs.panel.put_cross.Goals as goal

pub returns : goal.returns
returns g c =
    let from = rw c.point_at.ensures at c.figure.ensures in
    let to = rw c.point_at-2.ensures at from in
    let paint = rw c.line_paint.ensures at to in
    let one = rw c.ink.ensures at paint in
    let low = rw c.point_at-3.ensures at c.figure-2.ensures in
    let high = rw c.point_at-4.ensures at low in
    let edge = rw c.line_paint-2.ensures at high in
    let two = rw c.ink-2.ensures at edge in
    g.met.D.Drawing.then _ _ _ _ _ one two
