use Rattle.picture.proofs.messages_drawn.put_head_points.Goals as goal

pub returns : goal.returns
returns g c =
    let one = rw c.point_at.ensures at c.point.ensures in
    let two = rw c.point_at-2.ensures at c.point-2.ensures in
    let three = rw c.point_at-3.ensures at c.point-3.ensures in
    g.met.D.Drawing.more_points _ _ _ _ _ one (g.met.D.Drawing.more_points _ _ _ _ _ two three)
