use Rattle.air_turn.specs.Seats.{IsSameSeat}
use Rattle.keeping_tests.proofs.air_turn_tests.sends_nothing.Given as goal

abbrev pub invariant-loop-call : goal.invariant-loop-call
invariant-loop-call g l = IsSameSeat l.fn.seat l.seat
