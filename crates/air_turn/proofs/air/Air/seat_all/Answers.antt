use Rattle.std.proofs.Common.{rules, ap, ◌<◌, ◌+◌, drop, length}
use Rattle.air_turn.specs.Rule.{fresh}
use Rattle.air_turn.specs.Told.{KnownAndHeld}
use Rattle.air_turn.proofs.Along.{splits-along}
use Rattle.air_turn.proofs.Seating.{next-fresh, next_claim}
use Rattle.air_turn.proofs.air.Air.seat_all.Goals as goal

pub split_seat-next-requires : goal.split_seat-next-requires
split_seat-next-requires c =
    let e = c.args.about.now.value.encounter in
    let journal = c.args.about.now.value.journal in
    let inside : c.loop-i.i < length c.args.owns.now = search rules in
    let is = next-fresh c.args.self.now.table e journal _ _ _ c.loop-i.invariant.me inside in
    (search rules, search rules, splits-along _ _ _ e (next_claim c.args.self.now.table e journal c.args.owns.now c.loop-i.i) (fresh journal (drop (c.loop-i.i + 1) c.args.owns.now)) (ap (λ (m : KnownAndHeld). m.0) is))
