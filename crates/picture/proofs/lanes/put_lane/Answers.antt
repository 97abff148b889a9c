use Rattle.picture.proofs.lanes.put_lane.Goals as goal

pub returns : goal.returns
returns g c =
    let head = rw c.name.ensures.text at c.put_lane_head.ensures in
    g.met.D.Drawing.then _ _ _ _ _ head c.put_bars.ensures
