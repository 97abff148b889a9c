use Rattle.std.proofs.Common.{◌≡◌, map, vec_capacity}
use Rattle.craft_worker.specs.Workers.{seat_of}
use Rattle.craft_worker.proofs.threaded_run.take_seats_back.Given as goal

abbrev pub invariant-loop-worker : goal.invariant-loop-worker
invariant-loop-worker l = record {
  seats : l.seats.items ≡ map seat_of l.yielded;
  room : vec_capacity l.seats ≡ vec_capacity l.initial.seats;
}
