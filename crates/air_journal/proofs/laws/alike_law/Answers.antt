use Rattle.air_journal.proofs.Alike.{sees-the-same}
use Rattle.air_journal.proofs.laws.alike_law.Goals as goal

pub returns : goal.returns
returns c = sees-the-same
