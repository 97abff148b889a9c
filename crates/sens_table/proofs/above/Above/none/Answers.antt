use Rattle.std.proofs.Common.{refl}
use Rattle.sens_table.specs.Above.{above_of}
use Rattle.sens_table.proofs.above.Above.none.Goals as goal

pub returns : goal.returns
unfolding above_of
returns c = λ profile elevation. refl
