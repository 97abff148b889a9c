use Rattle.craft_worker.proofs.Completing.{completes-journal}
use Rattle.craft_worker.proofs.threaded_run.played_law.Goals as goal

pub returns : goal.returns
returns c = completes-journal
