use Rattle.picture.specs.Bands.{craft_bands}
use Rattle.picture.proofs.bands.put_craft_bands.Goals as goal

pub returns : goal.returns
unfolding craft_bands
returns g c =
    let address = rw c.address_of-address.ensures at c.put_bands_of.ensures in
    rw c.requires.encounter at address
