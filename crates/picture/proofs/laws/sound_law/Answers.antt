use Rattle.air_journal.proofs.Bounds.{few-crafts}
use Rattle.picture.proofs.Placing.{is-sound}
use Rattle.picture.proofs.laws.sound_law.Goals as goal

pub returns : goal.returns
returns c it e journal labels valid legal = is-sound it e journal labels valid (few-crafts e valid) legal
