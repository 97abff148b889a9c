use Rattle.std.proofs.Common.{◌≡◌}
use Rattle.air_rules.specs.Journal.{commits}
use Rattle.air_turn.specs.Seats.{IsSameSeat}
use Rattle.keeping_tests.proofs.air_turn_tests.first_wrong.Given as goal

abbrev pub invariant-loop-place : goal.invariant-loop-place
invariant-loop-place g l = record {
  low : IsSameSeat l.fn.low l.low;
  high : IsSameSeat l.fn.high l.high;
  low_made : l.low_made ≡ commits l.low.front l.low.own;
  high_made : l.high_made ≡ commits l.high.front l.high.own;
}
