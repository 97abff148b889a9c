use Rattle.std.proofs.Common.{◌≡◌, true, false, ℤ, w64, rules, sym, ap, ◌∙◌, subst}
use Rattle.std.proofs.lemmas.Bool.{cond-false, cond-true}
use Rattle.std.proofs.lemmas.Int.{to_z-of_z}
use Rattle.air_journal.specs.Airs.{air_of}
use Rattle.air_rules.specs.Air.{is_ra}
use Rattle.response.specs.Flown.{altitude_units, first_advised, flown, flown_from}
use Rattle.response.specs.Flying.{Flying, flight_in, flying}
use Rattle.response.proofs.flier.Flier.altitude.Goals as goal

-- The aircraft's altitude, where it responds and where it flies as planned.
abbrev IsFlown : ℤ → Flying → Type 0
IsFlown z it = z ≡ flown it.encounter it.journal it.own it.cycle

pub returns-then-self-clause-value : goal.returns-then-self-clause-value
unfolding flown
returns-then-self-clause-value c =
    let i = c.self.inside in
    let v = c.self.invariant in
    let it = flying i.plan.now i.state.now.journal i.own i.cycle in
    let now = c.args.self.now in
    let here : is_ra (air_of it.encounter) it.own ≡ true = sym v.responds_is ∙ c.if-self.true in
    let ra = subst (λ (x : Flying). is_ra (air_of x.encounter) x.own ≡ true) c.self.view_is here in
    to_z-of_z w64 c.responding.result (search rules) ∙ c.responding.ensures.value
    ∙ sym (cond-true (is_ra (air_of now.encounter) now.own) (flown_from (flight_in now) now.cycle (first_advised (flight_in now) now.encounter.cycles)) ((flight_in now).altitude now.cycle) ra)

pub returns-clause-value : goal.returns-clause-value
unfolding flown
returns-clause-value c =
    let i = c.self.inside in
    let v = c.self.invariant in
    let it = flying i.plan.now i.state.now.journal i.own i.cycle in
    let z = to_z-of_z w64 i.planned (search rules) in
    let planned : c.altitude_units.result ≡ (flight_in it).altitude i.cycle = c.altitude_units.ensures.value ∙ ap altitude_units (z ∙ v.planned_is) in
    let ra : is_ra (air_of it.encounter) it.own ≡ false = sym v.responds_is ∙ c.if-self.false in
    let is : IsFlown c.altitude_units.result it = planned ∙ sym (cond-false (is_ra (air_of it.encounter) it.own) _ ((flight_in it).altitude i.cycle) ra) in
    to_z-of_z w64 c.altitude_units.result (search rules) ∙ subst (IsFlown c.altitude_units.result) c.self.view_is is
