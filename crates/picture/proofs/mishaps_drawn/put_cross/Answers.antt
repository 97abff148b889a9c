use Rattle.picture.proofs.mishaps_drawn.put_cross.Goals as goal

pub returns : goal.returns
returns g c =
    let from = rw c.point_at.ensures at c.put_stroke.ensures in
    let to = rw c.point_at-2.ensures at from in
    let one = rw c.lost_y-y.ensures.value at to in
    let two = rw c.lost_y-y.ensures.value at c.put_cross_at.ensures in
    g.met.D.Drawing.then _ _ _ _ _ one two
