use Rattle.std.proofs.Common.{◌<◌, ◌∙◌, ℕ, length, rules, subst, sym, w32}
use Rattle.std.proofs.lemmas.Int.{to_z-of_z}
use Rattle.flight.specs.Measurement.{own_altitude}
use Rattle.craft_view.proofs.Stepping.{active-within}
use Rattle.reasons.proofs.Looking.{own-side-is, small-alim}
use Rattle.reasons.proofs.seen.own_side_of.Goals as goal

pub own_altitude-requires : goal.own_altitude-requires
own_altitude-requires c =
    let e = c.args.places.now.encounter in
    subst (λ (k : ℕ). k < length e.crafts) (sym c.own.ensures) (active-within e c.args.craft.now.own c.requires.belongs.active)

pub returns-clause-value : goal.returns-clause-value
returns-clause-value c =
    let e = c.args.places.now.encounter in
    let kept = c.args.craft.now in
    let altitude = to_z-of_z w32 c.own_altitude.result (search rules) ∙ c.own_altitude.ensures.value ∙ (λ i. own_altitude e (c.own.ensures i) (c.requires.present i)) in
    own-side-is e kept.own kept.cycle _ c.own_aircraft-aircraft.result c.requires.begun altitude c.own_aircraft-aircraft.ensures.value

pub returns-clause-bounds : goal.returns-clause-bounds
returns-clause-bounds c =
    let own = c.own_aircraft-aircraft.result in
    let rows = c.own_aircraft-aircraft.ensures.rows in
    record { rows = rows; alim = small-alim own.level rows.level }
