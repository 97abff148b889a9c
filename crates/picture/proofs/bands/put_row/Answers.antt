use Rattle.picture.specs.Bands.{band_of_row}
use Rattle.picture.proofs.bands.put_row.Goals as goal

pub returns : goal.returns
unfolding band_of_row
returns g c =
    let title = rw c.bar_title-title.ensures.text at c.put_row_band.ensures in
    let now = rw c.shown_in-now.ensures at title in
    let before = rw c.shown_in-before.ensures at now in
    rw c.requires.encounter at before
