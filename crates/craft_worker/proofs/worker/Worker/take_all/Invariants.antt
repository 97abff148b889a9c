use Rattle.craft_worker.specs.Workers.{MakesNoCommit}
use Rattle.craft_worker.proofs.worker.Worker.take_all.Given as goal

abbrev pub invariant-loop-call : goal.invariant-loop-call
invariant-loop-call g l = MakesNoCommit l.air l.enc l.initial.self l.self
