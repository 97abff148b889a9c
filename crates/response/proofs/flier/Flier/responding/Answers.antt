use Rattle.std.proofs.Common.{◌≡◌, ◌≤◌, ◌^◌, ℤ, unsigned_abs, w64, rules, sym, ap, ◌∙◌, subst}
use Rattle.std.proofs.lemmas.Int.{to_z-of_z}
use Rattle.response.proofs.Flights.{altitude-few, height, height-is}
use Rattle.response.specs.Flown.{altitude_units, first_advised, flown_from}
use Rattle.response.specs.Flying.{Flying, flight_in, flying}
use Rattle.response.proofs.flier.Flier.responding.Goals as goal

-- The altitude of an aircraft.
abbrev IsAltitude : ℤ → Flying → Type 0
IsAltitude z it = z ≡ flown_from (flight_in it) it.cycle (first_advised (flight_in it) it.encounter.cycles)

pub returns-in-Some-clause-value : goal.returns-in-Some-clause-value
returns-in-Some-clause-value c =
    let i = c.self.inside in
    let v = c.self.invariant in
    let e = i.plan.now in
    let it = flying e i.state.now.journal i.own i.cycle in
    let z = c.in-Some.motion.altitude in
    let few = altitude-few i.cycle e.cycles i.motion c.in-Some.motion v.in_run c.valid_law.ensures.run.length.1 v.bounds c.in-Some.is in
    let is : IsAltitude z it = ap (height ((flight_in it).altitude i.cycle)) (sym c.in-Some.is) ∙ height-is (flight_in it) i.cycle e.cycles i.motion v.begun v.in_run v.motion_is in
    to_z-of_z w64 z (search rules) ∙ subst (IsAltitude z) c.self.view_is is

pub returns-in-Some-clause-bound : goal.returns-in-Some-clause-bound
returns-in-Some-clause-bound c =
    let i = c.self.inside in
    let v = c.self.invariant in
    let few = altitude-few i.cycle i.plan.now.cycles i.motion c.in-Some.motion v.in_run c.valid_law.ensures.run.length.1 v.bounds c.in-Some.is in
    subst (λ (z : ℤ). unsigned_abs z ≤ 2 ^ 30) (sym (to_z-of_z w64 c.in-Some.motion.altitude (search rules))) few

pub returns-in-None-clause-value : goal.returns-in-None-clause-value
returns-in-None-clause-value c =
    let i = c.self.inside in
    let v = c.self.invariant in
    let e = i.plan.now in
    let it = flying e i.state.now.journal i.own i.cycle in
    let z = to_z-of_z w64 i.planned (search rules) in
    let planned : c.altitude_units.result ≡ (flight_in it).altitude i.cycle = c.altitude_units.ensures.value ∙ ap altitude_units (z ∙ v.planned_is) in
    let is : IsAltitude c.altitude_units.result it = planned ∙ ap (height ((flight_in it).altitude i.cycle)) (sym c.in-None.is) ∙ height-is (flight_in it) i.cycle e.cycles i.motion v.begun v.in_run v.motion_is in
    to_z-of_z w64 c.altitude_units.result (search rules) ∙ subst (IsAltitude c.altitude_units.result) c.self.view_is is
