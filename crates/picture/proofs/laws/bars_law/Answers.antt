use Rattle.air_journal.specs.Airs.{air_of}
use Rattle.picture.proofs.Barring.{are-bars}
use Rattle.picture.proofs.laws.bars_law.Goals as goal

pub returns : goal.returns
returns c e journal legal own = are-bars (air_of e) journal legal e.cycles own
