use Rattle.res_message.proofs.Distance.{no-code-word}
use Rattle.res_message.proofs.laws.distance_law.Goals as goal

pub returns : goal.returns
returns c = no-code-word
