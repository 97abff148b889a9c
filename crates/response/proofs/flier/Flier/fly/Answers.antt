use Rattle.std.proofs.Common.{◌≡◌, ◌+◌, ◌-◌, ◌≤◌, ℤ, ◌-ℤ◌, unsigned_abs, w64, rules, sym, ap, ap₂, ◌∙◌, subst, arith}
use Rattle.std.proofs.lemmas.Int.{to_z-of_z}
use Rattle.acas_base.specs.Ranges.{IsWithin}
use Rattle.advisory_report.specs.Composite.{shown}
use Rattle.response.proofs.Changes.{changed-before}
use Rattle.response.proofs.Flights.{motion-next}
use Rattle.response.proofs.Rates.{rate-small, vertical}
use Rattle.response.specs.Flown.{altitude_units, flight_of, rate_units}
use Rattle.response.specs.Flying.{IsAdvised, moved_on}
use Rattle.response.proofs.flier.Flier.fly.Goals as goal

pub rate_between-rate-requires-clause-rate : goal.rate_between-rate-requires-clause-rate
rate_between-rate-requires-clause-rate c =
    let i = c.self.inside in
    let v = c.self.invariant in
    let e = i.plan.now in
    let next = to_z-of_z w64 c.planned_z-next.result (search rules) ∙ c.planned_z-next.ensures.value in
    let here = to_z-of_z w64 i.planned (search rules) ∙ v.planned_is in
    let rate = ap₂ (λ (a b : ℤ). a -ℤ b) next here ∙ vertical e i.own i.cycle v.own v.begun in
    subst (IsWithin 10000) (sym rate) (rate-small e i.own i.cycle c.valid_law.ensures)

pub moved_on-self-inside-requires-clause-changed : goal.moved_on-self-inside-requires-clause-changed
moved_on-self-inside-requires-clause-changed c =
    let i = c.self.inside in
    let v = c.self.invariant in
    let flight = flight_of i.plan.now i.state.now.journal i.own in
    let next : i.cycle ≡ i.cycle - 1 + 1 = (let b = v.begun in omega arith) in
    let advised = c.with-self-inside.ensures flight (i.cycle - 1) v.advised_is next (c.shown-now.ensures ∙ ap shown c.cells.ensures) in
    let before = changed-before flight i.cycle in
    omega (arith, advised.changed_is, before)

pub invariant_of-self : goal.invariant_of-self
invariant_of-self c =
    let i = c.self.inside in
    let v = c.self.invariant in
    let e = i.plan.now in
    let flight = flight_of e i.state.now.journal i.own in
    let next = to_z-of_z w64 c.planned_z-next.result (search rules) in
    let here = to_z-of_z w64 i.planned (search rules) in
    let z = next ∙ c.planned_z-next.ensures.value in
    let up : i.cycle ≡ i.cycle - 1 + 1 = (let b = v.begun in omega arith) in
    let back : i.cycle ≡ i.cycle + 1 - 1 = omega arith in
    let advised = c.with-self-inside.ensures flight (i.cycle - 1) v.advised_is up (c.shown-now.ensures ∙ ap shown c.cells.ensures) in
    let rate = to_z-of_z w64 c.rate_between-rate.result (search rules) ∙ c.rate_between-rate.ensures.value ∙ ap rate_units (ap₂ (λ (a b : ℤ). a -ℤ b) z (here ∙ v.planned_is) ∙ vertical e i.own i.cycle v.own v.begun) in
    let altitude = to_z-of_z w64 c.altitude_units-altitude.result (search rules) ∙ c.altitude_units-altitude.ensures.value ∙ ap altitude_units (here ∙ v.planned_is) in
    let moved = c.moved_on-self-inside.ensures.value ∙ ap₂ (moved_on i.motion c.with-self-inside.result i.cycle) altitude rate in
    record {
      own = v.own;
      begun = omega arith;
      in_run = search rules;
      responds_is = v.responds_is;
      planned_is = z;
      advised_is = subst (λ n. IsAdvised flight n c.with-self-inside.result) back advised;
      motion_is = moved ∙ motion-next flight i.cycle c.with-self-inside.result i.motion v.begun advised v.motion_is;
      near = subst (λ (z : ℤ). unsigned_abs z ≤ 9590000) (sym next) c.planned_z-next.ensures.bound;
      bounds = c.moved_on-self-inside.ensures.bounds;
    }
