use Rattle.picture.specs.Bands.{row_band}
use Rattle.picture.proofs.bands.put_row_band.Goals as goal

pub returns : goal.returns
unfolding row_band
returns g c =
    let kind = rw c.advised.ensures at c.put_sided.ensures in
    let deep = rw c.band_depth.ensures.value at kind in
    let x = rw c.begin.ensures.value at c.put_onset.ensures in
    let y = rw c.y.ensures.value at x in
    g.met.D.Drawing.then _ _ _ _ _ deep y
