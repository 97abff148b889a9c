use Rattle.miss_test.proofs.Beyond.{never-within}
use Rattle.miss_test.proofs.miss.miss_law.Goals as goal

pub returns : goal.returns
returns c = never-within
