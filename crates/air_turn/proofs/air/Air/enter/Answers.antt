use Rattle.std.proofs.Common.{rules, Some, sym, ◌∙◌}
use Rattle.air_turn.specs.Rule.{state_of}
use Rattle.air_turn.specs.Told.{first}
use Rattle.air_turn.proofs.Along.{none_said, draws-along, looks-along}
use Rattle.air_turn.proofs.Serving.{same-word}
use Rattle.air_turn.proofs.Turning.{drawn-is, in-hand, turn-seen, turn-taken}
use Rattle.air_turn.proofs.air.Air.enter.Goals as goal

pub fetch_add-ticket-requires : goal.fetch_add-ticket-requires
fetch_add-ticket-requires g c = (search rules, search rules, draws-along _ _ _ _ c.requires.idle)

pub load-found-requires : goal.load-found-requires
load-found-requires g c =
    let m = c.args.place.now.me in
    let drawn = c.fetch_add-ticket.ensures.2 in
    (search rules, search rules, looks-along _ _ _ _ m.0.encounter (first m.0.claims) drawn.0 _ (c.serving_word-serving.ensures.value ∙ same-word drawn.0 _ (sym drawn.1)) (c.loop.invariant.me ∙ drawn-is m _ drawn.0 m.0.encounter (first m.0.claims) c.requires.idle drawn.2))

pub exchange-requires : goal.exchange-requires
exchange-requires g c =
    let m = c.args.place.now.me in
    let drawn = c.fetch_add-ticket.ensures.2 in
    let seen = turn-seen none_said m _ _ c.load-found.new.seat.me drawn.0 _ _ c.requires.idle drawn.1 drawn.2 c.loop.invariant.me c.if-found-ticket.true c.load-found.ensures.2 in
    (search rules, (Some (state_of m.0.encounter seen.0), in-hand _ m.0.encounter (first m.0.claims) drawn.0 seen.1 seen.0 _ seen.2))

pub returns-then-found-ticket-clause-turn : goal.returns-then-found-ticket-clause-turn
returns-then-found-ticket-clause-turn g c =
    let m = c.args.place.now.me in
    let drawn = c.fetch_add-ticket.ensures.2 in
    let seen = turn-seen none_said m _ _ c.load-found.new.seat.me drawn.0 _ _ c.requires.idle drawn.1 drawn.2 c.loop.invariant.me c.if-found-ticket.true c.load-found.ensures.2 in
    turn-taken m c.load-found.new.seat.me c.exchange.new.seat.me drawn.0 seen.1 seen.0 c.exchange.result c.in-Some-exchange.state _ (sym drawn.1) seen.2 seen.3 c.exchange.ensures.2 c.exchange.ensures.3 c.in-Some-exchange.is
