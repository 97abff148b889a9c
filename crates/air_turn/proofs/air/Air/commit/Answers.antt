use Rattle.std.proofs.Common.{sym, ap, ◌∙◌}
use Rattle.air_journal.specs.Airs.{air_of}
use Rattle.air_journal.specs.Calls.{Commits}
use Rattle.air_turn.specs.Seats.{SeatState}
use Rattle.air_turn.proofs.Turning.{called-by, gone-on, grows-commit, next-picture, rests-after, turn-ticket}
use Rattle.air_turn.proofs.air.Air.commit.Goals as goal

pub commit-answer-requires-clause-picture : goal.commit-answer-requires-clause-picture
commit-answer-requires-clause-picture g c = next-picture c.args.seat.now c.seat.inside.place c.enter-turn.new.place.me _ c.enter-turn.result.state c.own-own.result c.args.pic.now c.seat.view_is c.enter-turn.ensures.turn c.own-own.ensures c.requires.picture

pub leave-requires-clause-ticket : goal.leave-requires-clause-ticket
leave-requires-clause-ticket g c = turn-ticket _ _ _ _ c.enter-turn.ensures.turn

pub leave-requires-clause-gone_on : goal.leave-requires-clause-gone_on
leave-requires-clause-gone_on g c =
    let mine = c.own-own.ensures ∙ sym (ap (λ (s : SeatState). s.own) c.seat.view_is) in
    let grows = grows-commit _ _ _ _ _ c.commit-answer.ensures.commits in
    rw c.commit_grew.ensures (gone-on c.seat.inside.place.me _ _ c.enter-turn.result.state c.commit-answer.new.self _ _ c.enter-turn.ensures.turn c.commit-answer.ensures.encounter c.commit-answer.ensures.legal mine grows)

pub returns : goal.returns
returns g c =
    called-by (λ e own before after. Commits (air_of e) before own after c.commit-answer.result) c.seat.inside.place c.leave.new.place _ _ c.enter-turn.result.state c.commit-answer.new.self c.args.seat.now c.own-own.result c.seat.view_is
    (c.leave.ensures.place.0 ∙ c.enter-turn.ensures.place.0) c.enter-turn.ensures.turn c.leave.ensures.idle c.own-own.ensures c.commit-answer.ensures.commits

pub invariant_of-seat : goal.invariant_of-seat
invariant_of-seat g c = rests-after c.seat.inside.place _ _ _ c.enter-turn.result.state c.commit-answer.new.self _ c.seat.invariant c.enter-turn.ensures.turn c.commit-answer.ensures.encounter c.commit-answer.ensures.legal c.leave.ensures.idle
