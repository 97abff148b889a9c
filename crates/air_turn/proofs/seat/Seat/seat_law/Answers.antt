use Rattle.std.proofs.Common.{subst}
use Rattle.air_turn.specs.Seats.{IsSeat}
use Rattle.air_turn.proofs.seat.Seat.seat_law.Goals as goal

pub returns : goal.returns
returns c = subst IsSeat c.self.view_is c.self.invariant.seat
