use Rattle.std.specs.Prelude.{All}
use Rattle.craft_worker.specs.Workers.{EachSame, IsReady}
use Rattle.craft_worker.proofs.rounds.rounds.Given as goal

abbrev pub invariant-loop-round : goal.invariant-loop-round
invariant-loop-round g l = record {
  same : EachSame l.initial.workers l.workers;
  ready : All (IsReady l.air l.enc) l.workers;
}
