use Rattle.rec_audit.proofs.Once.{allowed-once}
use Rattle.rec_audit.proofs.laws.allowed_law.Goals as goal

pub returns : goal.returns
returns c = λ air journal one two same a b. allowed-once air journal one two same a b
