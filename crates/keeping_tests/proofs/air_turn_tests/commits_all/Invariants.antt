use Rattle.std.proofs.Common.{◌≡◌}
use Rattle.air_rules.specs.Journal.{commits}
use Rattle.air_turn.specs.Seats.{IsSameSeat}
use Rattle.keeping_tests.proofs.air_turn_tests.commits_all.Given as goal

abbrev pub invariant-loop-try : goal.invariant-loop-try
invariant-loop-try g l = record {
  same : IsSameSeat l.fn.seat l.seat;
  made : l.made ≡ commits l.seat.front l.seat.own;
}
