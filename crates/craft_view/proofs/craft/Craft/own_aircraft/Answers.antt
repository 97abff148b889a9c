use Rattle.std.proofs.Common.{◌≡◌, length, ◌∙◌, ap, refl, subst, sym, arith, rules, w32}
use Rattle.std.proofs.lemmas.Int.{to_z-of_z}
use Rattle.std.proofs.lemmas.Option.{slice_get_read}
use Rattle.acas_base.specs.Encounter.{Parts}
use Rattle.craft_view.specs.Kept.{Belongs, Kept}
use Rattle.craft_view.specs.Own.{own_of}
use Rattle.craft_view.specs.Sight.{sight_of}
use Rattle.sens_table.specs.Above.{above_of}
use Rattle.craft_view.proofs.Viewing.{own-known}
use Rattle.craft_view.proofs.Stepping.{active-within}
use Rattle.craft_view.proofs.craft.Craft.own_aircraft.Goals as goal

pub returns-clause-value : goal.returns-clause-value
returns-clause-value c =
    let e = c.args.places.now.encounter in
    let kept = c.self.inside in
    let present : c.args.places.now.cycle ≡ kept.cycle = c.requires.present ∙ ap (λ (k : Kept). k.cycle) (sym c.self.view_is) in
    let belongs = subst (Belongs e) (sym c.self.view_is) c.requires.belongs in
    let spec = c.index-crafts-from.result in
    let is = slice_get_read e.crafts (length e.crafts) kept.own spec refl (active-within e kept.own belongs.active) (rw (c.crafts.ensures.value, c.encounter-encounter.ensures, c.from.ensures) at c.index-crafts-from.is) in
    let altitude = to_z-of_z w32 c.own_altitude-altitude.result (search rules) ∙ c.own_altitude-altitude.ensures.value in
    let elevation = to_z-of_z w32 c.ground.result (search rules) ∙ c.ground.ensures.value ∙ ap (λ (e : Parts). e.elevation) c.encounter-encounter.ensures in
    let profile = c.profile.ensures ∙ ap (λ (e : Parts). e.profile) c.encounter-encounter.ensures in
    let known = own-known e kept.own c.args.places.now.cycle spec kept.above is (omega (arith, c.requires.present, c.requires.begun))
    (belongs.above ∙ ap (λ n. above_of e.profile e.elevation (sight_of e kept.own n).own) (sym present)) in
    (rw (altitude, elevation, profile) at c.own_at.ensures.value) ∙ known ∙ (λ i. own_of (sight_of e (c.self.view_is i).own (c.requires.present i)))
