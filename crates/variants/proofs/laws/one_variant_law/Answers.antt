use Rattle.variants.proofs.One.{one-variant}
use Rattle.variants.proofs.laws.one_variant_law.Goals as goal

pub returns : goal.returns
returns c = one-variant
