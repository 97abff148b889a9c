use Rattle.picture.proofs.messages_drawn.put_shaft.Goals as goal

pub returns : goal.returns
returns g c =
    let from = rw c.point_at.ensures at c.figure.ensures in
    let to = rw c.point_at-2.ensures at from in
    let one = rw c.line_paint.ensures at to in
    g.met.D.Drawing.then _ _ _ _ _ one c.put_head.ensures
