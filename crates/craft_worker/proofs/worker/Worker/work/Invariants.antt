use Rattle.std.proofs.Common.{◌≡◌, ◌<◌, false}
use Rattle.air_turn.specs.Seats.{IsSameSeat}
use Rattle.craft_worker.specs.Workers.{IsReady}
use Rattle.craft_worker.proofs.worker.Worker.work.Given as goal

abbrev pub invariant-loop-try : goal.invariant-loop-try
invariant-loop-try g l = record {
  same : IsSameSeat l.fn.self.seat l.self.seat;
  ready : IsReady l.air l.enc l.self;
  not_done : l.self.done ≡ false;
  few : l.tries < 64;
}
