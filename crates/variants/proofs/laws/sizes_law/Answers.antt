use Rattle.variants.proofs.Sizes.{same-sizes}
use Rattle.variants.proofs.laws.sizes_law.Goals as goal

pub returns : goal.returns
returns c = same-sizes
