use Rattle.picture.proofs.lanes.put_lane_head.Goals as goal

pub returns : goal.returns
returns g c =
    let from = rw c.point_at.ensures at c.put_line.ensures in
    let to = rw c.point_at-2.ensures at from in
    let one = rw c.grid.ensures at to in
    let two = rw c.point_at-3.ensures at c.put_words.ensures in
    g.met.D.Drawing.then _ _ _ _ _ one two
