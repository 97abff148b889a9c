use Rattle.variants.proofs.Lost.{loses-these}
use Rattle.variants.proofs.laws.loss_law.Goals as goal

pub returns : goal.returns
returns c = loses-these
