use Rattle.air_journal.proofs.WellFormed.{entries-fit}
use Rattle.air_journal.proofs.laws.entries_law.Goals as goal

pub returns : goal.returns
returns c = entries-fit
