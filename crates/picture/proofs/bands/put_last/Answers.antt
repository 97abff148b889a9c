use Rattle.picture.proofs.bands.put_last.Goals as goal

pub returns : goal.returns
returns g c = rw c.last_area.ensures at c.figure.ensures
