use Rattle.picture.proofs.bands.put_both.Goals as goal

pub returns : goal.returns
returns g c =
    let paint = rw c.plain.ensures at c.put_band.ensures in
    let above = rw c.purple.ensures at paint in
    let other = rw c.plain-2.ensures at c.put_band-2.ensures in
    let below = rw c.purple-2.ensures at other in
    g.met.D.Drawing.then _ _ _ _ _ above below
