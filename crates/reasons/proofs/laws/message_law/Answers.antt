use Rattle.reasons.proofs.Naming.{names-its-message}
use Rattle.reasons.proofs.laws.message_law.Goals as goal

pub returns : goal.returns
returns c = names-its-message
