use Rattle.std.proofs.Common.{rules, ap}
use Rattle.air_turn.specs.Told.{KnownAndHeld, first}
use Rattle.air_turn.proofs.Along.{joins-along}
use Rattle.air_turn.proofs.Gathering.{joining-first, joining-more, joining-next, more-view}
use Rattle.air_turn.proofs.closing.gather.Goals as goal

pub loop-seat-init : goal.loop-seat-init
loop-seat-init c = joining-first _ _ _ c.in-Some.last _ _ c.requires.of c.in-Some.ensures.items c.into_place-place.ensures.seat c.into_place-place.ensures.idle

pub join_seat-requires : goal.join_seat-requires
join_seat-requires c =
    let b = c.loop-seat.invariant in
    let t = c.args.table.now.shared.table_id in
    let e = c.args.table.now.shared.key.value.encounter in
    let n = joining-next t e _ c.into_place-next.result c.in-Some-pop.seat _ _ _ b c.in-Some-pop.ensures.items c.into_place-next.ensures.seat c.into_place-next.ensures.idle in
    (n.0.table, b.table, ap (λ (m : KnownAndHeld). m.1) b.me, search rules, joins-along _ _ _ _ _ e e (first c.into_place-next.result.me.0.claims) b.some.0 _ b.some.1 (ap (λ (m : KnownAndHeld). m.0) n.0.me) (more-view e _ b.some.0 b.some.1 b.me b.some.2))

pub loop-seat-preserved : goal.loop-seat-preserved
loop-seat-preserved c =
    let b = c.loop-seat.invariant in
    let t = c.args.table.now.shared.table_id in
    let e = c.args.table.now.shared.key.value.encounter in
    let n = joining-next t e _ c.into_place-next.result c.in-Some-pop.seat _ _ _ b c.in-Some-pop.ensures.items c.into_place-next.ensures.seat c.into_place-next.ensures.idle in
    joining-more t e _ c.into_place-next.result c.join_seat.new.seat c.in-Some-pop.seat _ _ _ b c.in-Some-pop.ensures.items n.0 n.1 c.join_seat.ensures.0 c.join_seat.ensures.2
