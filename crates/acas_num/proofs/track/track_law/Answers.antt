use Rattle.acas_num.proofs.Folds.{track-fold}
use Rattle.acas_num.proofs.track.track_law.Goals as goal

pub returns : goal.returns
returns c = track-fold
