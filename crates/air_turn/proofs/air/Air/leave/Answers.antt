use Rattle.std.proofs.Common.{rules, ◌≡◌, ◌+◌, ◌%◌, ◌∙◌}
use Rattle.air_turn.specs.Turns.{calls_of, claim_after, ticket_of}
use Rattle.air_turn.proofs.Along.{none_said, gives-along}
use Rattle.air_turn.proofs.Serving.{same-word}
use Rattle.air_turn.proofs.Turning.{put-back-is, turn-given}
use Rattle.air_turn.proofs.Turns.{next-mod}
use Rattle.air_turn.proofs.air.Air.leave.Goals as goal

pub store-requires : goal.store-requires
store-requires c =
    let m = c.args.place.now.me in
    let t = c.args.turn.state in
    let k = ticket_of m.0.stage in
    let n = calls_of m.0.stage + 1 in
    let ended = c.raise.ensures.ended in
    let back = put-back-is m.0.encounter (claim_after m t) _ c.exchange.new.seat.me t k n ended.new_is c.requires.gone_on.encounter c.exchange.ensures.3 in
    let next : (c.args.turn.ticket + 1) % 18446744073709551616 ≡ (k + 1) % 18446744073709551616 = next-mod _ _ c.requires.ticket in
    (search rules, search rules, gives-along _ _ _ _ m.0.encounter (claim_after m t) k n t.journal _ ((c.args.turn.ticket + 1) % 18446744073709551616) none_said (c.serving_word-serving.ensures.value ∙ same-word (k + 1) _ next) next back)

pub returns-clause-idle : goal.returns-clause-idle
returns-clause-idle c =
    let m = c.args.place.now.me in
    let t = c.args.turn.state in
    let k = ticket_of m.0.stage in
    let n = calls_of m.0.stage + 1 in
    let ended = c.raise.ensures.ended in
    let back = put-back-is m.0.encounter (claim_after m t) _ c.exchange.new.seat.me t k n ended.new_is c.requires.gone_on.encounter c.exchange.ensures.3 in
    turn-given none_said _ c.store.new.seat.me 0 _ _ _ _ _ _ back c.store.ensures.2
