use Rattle.picture.proofs.panels.put_both.Goals as goal

pub returns : goal.returns
returns g c = g.met.D.Drawing.then _ _ _ _ _ c.put_distance.ensures c.put_distance-2.ensures
