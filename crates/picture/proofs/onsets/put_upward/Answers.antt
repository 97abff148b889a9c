use Rattle.picture.specs.Onsets.{upward}
use Rattle.picture.proofs.onsets.put_upward.Goals as goal

pub returns : goal.returns
unfolding upward
returns g c =
    let p1 = rw c.point_at.ensures at c.point.ensures in
    let p2 = rw c.point_at-2.ensures at c.point-2.ensures in
    let p3 = rw c.point_at-3.ensures at c.point-3.ensures in
    g.met.D.Drawing.more_points _ _ _ _ _ p1 (g.met.D.Drawing.more_points _ _ _ _ _ p2 p3)
