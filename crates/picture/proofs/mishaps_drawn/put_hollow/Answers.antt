use Rattle.picture.proofs.mishaps_drawn.put_hollow.Goals as goal

pub returns : goal.returns
returns g c =
    let from = rw c.point_at.ensures at c.figure.ensures in
    let to = rw c.point_at-2.ensures at from in
    let painted = rw c.dashed_paint.ensures at to in
    let one = rw c.ink.ensures at painted in
    g.met.D.Drawing.then _ _ _ _ _ one c.put_empty_head.ensures
