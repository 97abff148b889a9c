use Rattle.picture.specs.Onsets.{diamond}
use Rattle.picture.proofs.onsets.put_diamond.Goals as goal

pub returns : goal.returns
unfolding diamond
returns g c =
    let p1 = rw c.point_at.ensures at c.point.ensures in
    let p2 = rw c.point_at-2.ensures at c.point-2.ensures in
    let p3 = rw c.point_at-3.ensures at c.point-3.ensures in
    let p4 = rw c.point_at-4.ensures at c.point-4.ensures in
    g.met.D.Drawing.more_points _ _ _ _ _ p1 (g.met.D.Drawing.more_points _ _ _ _ _ p2 (g.met.D.Drawing.more_points _ _ _ _ _ p3 p4))
