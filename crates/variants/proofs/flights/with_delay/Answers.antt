use Rattle.std.proofs.Common.{◌≡◌, ◌<◌, FitsSigned, ◌∙◌, ap, get_or, length, refl, rules, set, subst, sym, w64}
use Rattle.std.specs.Prelude.{All}
use Rattle.std.proofs.lemmas.Int.{to_z-of_z}
use Rattle.flight.specs.Bounds.{IsReachable}
use Rattle.leg_rows.specs.Flights.{at_place}
use Rattle.variants.proofs.Delay.{all-near, late-few, late-first, late-some, none-late}
use Rattle.variants.proofs.Later.{craft-there}
use Rattle.variants.proofs.One.{answered-by, is-late}
use Rattle.variants.specs.Flights.{late_place, late_places, with_craft, with_legs}
use Rattle.variants.specs.Made.{with_parts}
use Rattle.variants.specs.declared.change.Change.TheVariants.{Shifted}
use Rattle.variants.specs.declared.change.Quantity.TheVariants.{Late}
use Rattle.variants.proofs.flights.with_delay.Goals as goal

pub returns-in_default : goal.returns-in_default
returns-in_default c d v =
    let fits : FitsSigned w64 c.args.late = search rules in
    let found = rw (c.in_default.is, to_z-of_z w64 c.args.late fits) at c.in_ok-places.ensures in
    none-late c.args.encounter.now d c.args.craft c.args.late found v.inside v.varied

pub index-requires : goal.index-requires
index-requires c =
    let fits : FitsSigned w64 c.args.late = search rules in
    let found = rw (c.in-Some.is, to_z-of_z w64 c.args.late fits) at c.in_ok-places.ensures in
    let some = late-some c.args.encounter.now c.args.craft c.args.late c.in-Some.places.items c.crafts.ensures.valid found.0 in
    search rules

pub at_place-begun-requires : goal.at_place-begun-requires
at_place-begun-requires c =
    let fits : FitsSigned w64 c.args.late = search rules in
    let found = rw (c.in-Some.is, to_z-of_z w64 c.args.late fits) at c.in_ok-places.ensures in
    let some = late-some c.args.encounter.now c.args.craft c.args.late c.in-Some.places.items c.crafts.ensures.valid found.0 in
    rw c.index.ensures (found.1 0 c.index.result.now some)

pub with_legs-requires-clause-few : goal.with_legs-requires-clause-few
with_legs-requires-clause-few c =
    let fits : FitsSigned w64 c.args.late = search rules in
    let found = rw (c.in-Some.is, to_z-of_z w64 c.args.late fits) at c.in_ok-places.ensures in
    rw c.as_slice.ensures.value (late-few c.args.encounter.now c.args.craft c.args.late c.in-Some.places.items c.crafts.ensures.valid found.0)

pub with_legs-requires-clause-near : goal.with_legs-requires-clause-near
with_legs-requires-clause-near c =
    let found = rw c.in-Some.is at c.in_ok-places.ensures in
    let near : All IsReachable c.in-Some.places.items = all-near c.in-Some.places.items found.1 in
    subst (λ l. All IsReachable l) (sym c.as_slice.ensures.value) near

pub returns : goal.returns
returns c =
    let e = c.args.encounter.now in
    let fits : FitsSigned w64 c.args.late = search rules in
    let found = rw (c.in-Some.is, to_z-of_z w64 c.args.late fits) at c.in_ok-places.ensures in
    let there : c.args.craft < length e.crafts = search rules in
    let first = late_place e c.args.craft c.args.late 1 in
    let begun : c.index.result.now ≡ first = c.index.ensures ∙ late-first e c.args.craft c.args.late c.in-Some.places.items c.index.result.now c.crafts.ensures.valid found.0 in
    let spec : c.index-crafts-index.result ≡ get_or e.crafts c.args.craft c.index-crafts-index.result = search rules in
    let same : set e.crafts c.args.craft (at_place c.index-crafts-index.result c.index.result.now) ≡ with_craft c.args.craft (λ s. at_place s first) e.crafts =
    ap (λ p. set e.crafts c.args.craft (at_place c.index-crafts-index.result p)) begun
    ∙ ap (λ s. set e.crafts c.args.craft (at_place s first)) spec ∙ sym (craft-there e.crafts c.args.craft (λ s. at_place s first) c.index-crafts-index.result there) in
    let crafts : c.in_ok-with_craft.field-0.items ≡ with_craft c.args.craft (λ s. at_place s first) e.crafts = rw (c.at_place-begun.ensures, c.crafts-3.ensures.value, c.from-index.ensures) at c.in_ok-with_craft.ensures ∙ same in
    let places : c.as_slice.result.now ≡ late_places e c.args.craft c.args.late = c.as_slice.ensures.value ∙ found.0 in
    let legs : c.in_ok-with_legs.field-0.items ≡ with_legs c.args.craft (late_places e c.args.craft c.args.late) e.legs = rw (places, c.legs.ensures.value) at c.in_ok-with_legs.ensures in
    let fates : c.in_ok-from_slice.field-0.items ≡ e.fates = c.in_ok-from_slice.ensures.items ∙ c.fates.ensures.value in
    answered-by e (Shifted (record { quantity = Late; craft = c.args.craft; value = c.args.late }))
    (with_parts e c.in_ok-with_craft.field-0.items c.in_ok-with_legs.field-0.items c.in_ok-from_slice.field-0.items) c.made_inside.result
    (rw (crafts, legs, fates) refl) (is-late e c.args.craft c.args.late there) c.made_inside.ensures
