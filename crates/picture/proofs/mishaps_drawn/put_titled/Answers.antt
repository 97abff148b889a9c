use Rattle.picture.proofs.mishaps_drawn.put_titled.Goals as goal

pub returns : goal.returns
returns g c = g.met.D.Drawing.then _ _ _ _ _ c.put_sign.ensures c.put_count.ensures
