use Rattle.picture.proofs.bands.put_above.Goals as goal

pub returns : goal.returns
returns g c =
    let paint = rw c.plain.ensures at c.put_band.ensures in
    let color = rw c.blue.ensures at paint in
    color
