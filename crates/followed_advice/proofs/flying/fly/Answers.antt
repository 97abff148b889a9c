use Rattle.std.proofs.Common.{ℕ, ◌<◌, List, length, refl}
use Rattle.std.specs.Prelude.{map}
use Rattle.flight.specs.declared.place.Place.{Place}
use Rattle.followed_advice.proofs.Plays.{begun-after, follows-all, leaves-there, right-next, rows-begin, rows-of-flown, rows-of-read}
use Rattle.followed_advice.specs.Keeping.{FliesKept, GoesOn, IsFirstChange, IsFirstLeaving}
use Rattle.followed_advice.proofs.flying.fly.Goals as goal

pub first_change-requires : goal.first_change-requires
first_change-requires c =
    rw c.as_slice.ensures.value
    (rows-of-flown c.args.encounter.now c.args.named.now c.loop-known.flown (map (λ row. row.items) c.in_ok-rows.rows.items) c.loop-known.invariant.differs c.in_ok-rows.ensures)

pub returns-in_default-clause-follows : goal.returns-in_default-clause-follows
returns-in_default-clause-follows c =
    let none = rw c.as_slice.ensures.value at c.in_default.ensures.none in
    follows-all c.args.encounter.now c.args.named.now c.loop-known.flown c.loop-known.known (map (λ row. row.items) c.in_ok-rows.rows.items) c.loop-known.invariant c.in_ok-rows.ensures (none refl)

pub first_leaving-requires-clause-rows : goal.first_leaving-requires-clause-rows
first_leaving-requires-clause-rows c =
    rw c.as_slice-in-loop-known.ensures.value
    (rows-of-flown c.args.encounter.now c.args.named.now c.loop-known.flown (map (λ row. row.items) c.in_ok-rows.rows.items) c.loop-known.invariant.differs c.in_ok-rows.ensures)

pub first_leaving-requires-clause-begun : goal.first_leaving-requires-clause-begun
first_leaving-requires-clause-begun c =
    let rows : List (List Place) = map (λ row. row.items) c.in_ok-rows.rows.items in
    let change : IsFirstChange c.loop-known.flown rows c.in-Some.cycle = rw c.as_slice.ensures.value at c.in-Some.ensures.first in
    begun-after c.args.encounter.now c.args.named.now c.loop-known.flown c.loop-known.known c.in-Some.cycle rows c.loop-known.auto.known c.loop-known.invariant c.in_ok-rows.ensures change

pub returns-in-Some-first_leaving-clause-leaves : goal.returns-in-Some-first_leaving-clause-leaves
returns-in-Some-first_leaving-clause-leaves c =
    let rows : List (List Place) = map (λ row. row.items) c.in_ok-rows.rows.items in
    let change : IsFirstChange c.loop-known.flown rows c.in-Some.cycle = rw c.as_slice.ensures.value at c.in-Some.ensures.first in
    let leaving : IsFirstLeaving c.loop-known.flown rows c.in-Some.cycle c.in-Some-first_leaving.own = rw c.as_slice-in-loop-known.ensures.value at c.in-Some-first_leaving.ensures.first in
    leaves-there c.args.encounter.now c.args.named.now c.loop-known.flown c.loop-known.known c.in-Some.cycle c.in-Some-first_leaving.own rows c.loop-known.auto.known c.loop-known.invariant c.in_ok-rows.ensures change leaving

pub fly_kept-requires-clause-rows : goal.fly_kept-requires-clause-rows
fly_kept-requires-clause-rows c =
    rw c.as_slice-in-loop-known-2.ensures.value (rows-of-read c.args.encounter.now c.args.named.now c.loop-known.flown (map (λ row. row.items) c.in_ok-rows.rows.items) c.in_ok-rows.ensures)

pub fly_kept-requires-clause-start : goal.fly_kept-requires-clause-start
fly_kept-requires-clause-start c =
    rw c.as_slice-in-loop-known-2.ensures.value
    (rows-begin c.args.encounter.now c.args.named.now c.loop-known.flown (map (λ row. row.items) c.in_ok-rows.rows.items) c.valid_law.ensures.run.length.0 c.in_ok-rows.ensures)

pub loop-known-preserved : goal.loop-known-preserved
loop-known-preserved c =
    let rows : List (List Place) = map (λ row. row.items) c.in_ok-rows.rows.items in
    let change : IsFirstChange c.loop-known.flown rows c.in-Some.cycle = rw c.as_slice.ensures.value at c.in-Some.ensures.first in
    let can : (own : ℕ) → own < length c.loop-known.flown.crafts → GoesOn c.loop-known.flown rows own c.in-Some.cycle = rw c.as_slice-in-loop-known.ensures.value at (c.in_default-first_leaving.ensures.none refl) in
    let flies : FliesKept c.args.encounter.now c.args.named.now rows c.in_ok-flown-2.flown = rw c.as_slice-in-loop-known-2.ensures.value at c.in_ok-flown-2.ensures in
    right-next c.args.encounter.now c.args.named.now c.loop-known.flown c.loop-known.known c.in-Some.cycle rows c.in_ok-flown-2.flown c.loop-known.invariant c.in_ok-rows.ensures change can flies
