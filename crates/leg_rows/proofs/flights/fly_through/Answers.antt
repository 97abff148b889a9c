use Rattle.std.proofs.Common.{◌≡◌, ◌∙◌, List, ap, arith, length, subst, sym}
use Rattle.std.specs.Prelude.{All, map}
use Rattle.acas_base.specs.Encounter.{IsEncounter, Parts}
use Rattle.flight.specs.Inside.{IsInBox}
use Rattle.flight.specs.declared.place.Place.{Place}
use Rattle.leg_rows.proofs.Begun.{all-back, box-near, flown-encounter, flown-through, parts-are}
use Rattle.leg_rows.specs.Flights.{FliesThrough, crafts_at}
use Rattle.leg_rows.proofs.flights.fly_through.Goals as goal

pub crafts_at-requires-clause-some : goal.crafts_at-requires-clause-some
crafts_at-requires-clause-some c k d h =
    let long = all-back (λ (places : List Place). length places ≡ c.args.encounter.now.cycles) (λ row. row.items) c.args.rows.now c.requires.long k d h in
    omega (arith, long, c.calls.ensures.valid.run.length.0)

pub crafts_at-requires-clause-boxed : goal.crafts_at-requires-clause-boxed
crafts_at-requires-clause-boxed c = all-back (All IsInBox) (λ row. row.items) c.args.rows.now c.requires.boxed

pub legs_of_all-requires-clause-few : goal.legs_of_all-requires-clause-few
legs_of_all-requires-clause-few c k d h =
    let long = all-back (λ (places : List Place). length places ≡ c.args.encounter.now.cycles) (λ row. row.items) c.args.rows.now c.requires.long k d h in
    omega (arith, long, c.calls.ensures.valid.run.length.1)

pub legs_of_all-requires-clause-near : goal.legs_of_all-requires-clause-near
legs_of_all-requires-clause-near c k d h i e g = box-near _ (all-back (All IsInBox) (λ row. row.items) c.args.rows.now c.requires.boxed k d h i e g)

pub unreachable-requires : goal.unreachable-requires
unreachable-requires c =
    let e = c.args.encounter.now in
    let rows : List (List Place) = map (λ row. row.items) c.args.rows.now in
    let parts = parts-are e rows c.setting.result c.in_ok-from_slice.field-0.items c.in_ok-crafts_at.field-0.items c.in_ok-legs_of_all.field-0.items
    c.in_ok-from_slice-2.field-0.items c.in_ok-from_slice-3.field-0.items c.in_ok-from_slice-4.field-0.items
    c.setting.ensures (c.in_ok-from_slice.ensures.items ∙ c.calls.ensures.value)
    (c.in_ok-crafts_at.ensures ∙ ap (λ l. crafts_at l rows) c.crafts.ensures.value) c.in_ok-legs_of_all.ensures (c.in_ok-from_slice-2.ensures.items ∙ c.misses.ensures.value)
    (c.in_ok-from_slice-3.ensures.items ∙ c.plans.ensures.value) (c.in_ok-from_slice-4.ensures.items ∙ c.fates.ensures.value) in
    let valid = c.in-None.ensures.some.1 (subst IsEncounter (sym parts) (flown-encounter e rows c.calls.ensures.valid c.requires)) in
    absurd (cc valid)

pub returns-clause-flies : goal.returns-clause-flies
returns-clause-flies c =
    let e = c.args.encounter.now in
    let rows : List (List Place) = map (λ row. row.items) c.args.rows.now in
    let parts = parts-are e rows c.setting.result c.in_ok-from_slice.field-0.items c.in_ok-crafts_at.field-0.items c.in_ok-legs_of_all.field-0.items
    c.in_ok-from_slice-2.field-0.items c.in_ok-from_slice-3.field-0.items c.in_ok-from_slice-4.field-0.items
    c.setting.ensures (c.in_ok-from_slice.ensures.items ∙ c.calls.ensures.value)
    (c.in_ok-crafts_at.ensures ∙ ap (λ l. crafts_at l rows) c.crafts.ensures.value) c.in_ok-legs_of_all.ensures (c.in_ok-from_slice-2.ensures.items ∙ c.misses.ensures.value)
    (c.in_ok-from_slice-3.ensures.items ∙ c.plans.ensures.value) (c.in_ok-from_slice-4.ensures.items ∙ c.fates.ensures.value) in
    subst (λ (m : Parts). FliesThrough m e rows) (sym (c.in-Some.ensures.value ∙ parts)) (flown-through e rows c.requires)
