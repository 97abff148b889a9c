use Rattle.air_journal.proofs.Soundness.{sound-of}
use Rattle.air_journal.proofs.laws.sound_law.Goals as goal

pub returns : goal.returns
returns c = sound-of
