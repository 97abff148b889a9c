use Rattle.variants.proofs.Later.{flies-late}
use Rattle.variants.proofs.laws.late_law.Goals as goal

pub returns : goal.returns
returns c = flies-late
