use Rattle.std.proofs.Common.{sym, ap, ◌∙◌}
use Rattle.air_journal.specs.Airs.{air_of}
use Rattle.air_journal.specs.Calls.{Sends}
use Rattle.air_turn.specs.Seats.{SeatState}
use Rattle.air_turn.proofs.Turning.{called-by, gone-on, grows-send, rests-after, turn-ticket}
use Rattle.air_turn.proofs.air.Air.send.Goals as goal

pub leave-requires-clause-ticket : goal.leave-requires-clause-ticket
leave-requires-clause-ticket g c = turn-ticket _ _ _ _ c.enter-turn.ensures.turn

pub leave-requires-clause-gone_on : goal.leave-requires-clause-gone_on
leave-requires-clause-gone_on g c =
    let mine = c.own-own.ensures ∙ sym (ap (λ (s : SeatState). s.own) c.seat.view_is) in
    let grows = grows-send _ _ _ _ _ c.send-answer.ensures.sends in
    rw c.send_grew.ensures (gone-on c.seat.inside.place.me _ _ c.enter-turn.result.state c.send-answer.new.self _ _ c.enter-turn.ensures.turn c.send-answer.ensures.encounter c.send-answer.ensures.legal mine grows)

pub returns : goal.returns
returns g c =
    called-by (λ e own before after. Sends (air_of e) before own after c.send-answer.result) c.seat.inside.place c.leave.new.place _ _ c.enter-turn.result.state c.send-answer.new.self c.args.seat.now c.own-own.result c.seat.view_is
    (c.leave.ensures.place.0 ∙ c.enter-turn.ensures.place.0) c.enter-turn.ensures.turn c.leave.ensures.idle c.own-own.ensures c.send-answer.ensures.sends

pub invariant_of-seat : goal.invariant_of-seat
invariant_of-seat g c = rests-after c.seat.inside.place _ _ _ c.enter-turn.result.state c.send-answer.new.self _ c.seat.invariant c.enter-turn.ensures.turn c.send-answer.ensures.encounter c.send-answer.ensures.legal c.leave.ensures.idle
