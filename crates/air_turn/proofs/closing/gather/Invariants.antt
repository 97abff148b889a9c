use Rattle.std.proofs.Common.{vec_len}
use Rattle.air_turn.proofs.Gathering.{Joining}
use Rattle.air_turn.proofs.closing.gather.Given as goal

abbrev pub invariant-loop-seat : goal.invariant-loop-seat
invariant-loop-seat l = Joining l.table.shared.table_id l.table.shared.key.value.encounter l.place l.seats.items l.fn.seats.items

abbrev pub decreases-loop-seat : goal.decreases-loop-seat
decreases-loop-seat l = vec_len l.seats
