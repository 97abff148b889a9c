use Rattle.picture.proofs.bands.put_below.Goals as goal

pub returns : goal.returns
returns g c =
    let paint = rw c.plain.ensures at c.put_band.ensures in
    let color = rw c.vermilion.ensures at paint in
    let hatching = rw c.hatched.ensures at c.put_band-2.ensures in
    g.met.D.Drawing.then _ _ _ _ _ color hatching
