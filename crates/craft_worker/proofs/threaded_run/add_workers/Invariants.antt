use Rattle.std.proofs.Common.{◌≡◌, ◌≤◌, ◌+◌, ◌++◌, length, map, vec_capacity}
use Rattle.std.specs.Prelude.{All}
use Rattle.std.specs.Vec.Iter.{into_iter_items, into_iter_len}
use Rattle.craft_worker.specs.Workers.{IsReady, seat_of}
use Rattle.craft_worker.proofs.threaded_run.add_workers.Given as goal

-- The seats of those added, and those that wait, are all.
abbrev pub invariant-loop-seat : goal.invariant-loop-seat
invariant-loop-seat l = record {
  seats : map seat_of l.workers.items ++ into_iter_items l.waiting ≡ l.fn.seats.items;
  count : length (into_iter_items l.waiting) ≡ into_iter_len l.waiting;
  ready : All (IsReady l.air l.enc) l.workers.items;
  room : length l.workers.items + into_iter_len l.waiting ≤ vec_capacity l.workers;
}

abbrev pub decreases-loop-seat : goal.decreases-loop-seat
decreases-loop-seat l = into_iter_len l.waiting
