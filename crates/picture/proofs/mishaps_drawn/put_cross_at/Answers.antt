use Rattle.picture.proofs.mishaps_drawn.put_cross_at.Goals as goal

pub returns : goal.returns
returns g c =
    let from = rw c.point_at.ensures at c.put_stroke.ensures in
    let one = rw c.point_at-2.ensures at from in
    let other = rw c.point_at-3.ensures at c.put_stroke-2.ensures in
    let two = rw c.point_at-4.ensures at other in
    let three = rw c.saturating_sub-left.ensures at one in
    let first = rw c.saturating_sub-high.ensures at three in
    let four = rw c.saturating_sub-left.ensures at two in
    let second = rw c.saturating_sub-high.ensures at four in
    g.met.D.Drawing.then _ _ _ _ _ first second
