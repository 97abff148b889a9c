use Rattle.picture.proofs.head.put_head.Goals as goal

pub returns : goal.returns
returns g c =
    let near = rw c.enc.ensures at c.put_nearest.ensures in
    g.met.D.Drawing.then _ _ _ _ _ c.put_title.ensures near
