use Rattle.std.proofs.Common.{rules, ◌∙◌, ap}
use Rattle.air_turn.specs.Told.{KnownAndHeld, first, note_of}
use Rattle.air_turn.proofs.Along.{notes-along, confirms-along, tells-along}
use Rattle.air_turn.proofs.Turning.{told-is}
use Rattle.air_turn.proofs.air.Air.learn.Goals as goal

pub split_seat-note-requires : goal.split_seat-note-requires
split_seat-note-requires c =
    let o = c.other.inside.place.me in
    (search rules, search rules, notes-along _ _ _ o.0.encounter (first o.0.claims) (ap (λ (m : KnownAndHeld). m.0) c.other.invariant.idle))

pub join_seat-requires : goal.join_seat-requires
join_seat-requires c =
    let o = c.other.inside.place.me in
    let m = c.seat.inside.place.me in
    let note = ap (λ (y : KnownAndHeld). y.0) c.split_seat-note.ensures.4 ∙ ap (λ (y : KnownAndHeld). note_of y.0) c.other.invariant.idle in
    (search rules, search rules, search rules, search rules, tells-along _ _ _ _ _ m.0.encounter o.0.encounter (first m.0.claims) (first o.0.claims).seen (ap (λ (y : KnownAndHeld). y.0) c.seat.invariant.idle) note)

pub load-requires : goal.load-requires
load-requires c =
    let o = c.other.inside.place.me in
    let m = c.seat.inside.place.me in
    let note = ap (λ (y : KnownAndHeld). y.0) c.split_seat-note.ensures.4 ∙ ap (λ (y : KnownAndHeld). note_of y.0) c.other.invariant.idle in
    let told = told-is m c.join_seat.new.seat.me _ m.0.encounter o.0.encounter (first m.0.claims) (first o.0.claims).seen c.seat.invariant.idle note c.join_seat.ensures.2 in
    (search rules, search rules, confirms-along _ _ _ _ m.0.encounter (first m.0.claims) (first o.0.claims).seen told)
