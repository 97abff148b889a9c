use Rattle.std.proofs.Common.{◌≡◌, ◌<◌, FitsSigned, ◌∙◌, ap, length, refl, rules, set, sym, w64}
use Rattle.std.proofs.lemmas.Int.{to_z-of_z}
use Rattle.variants.proofs.Later.{craft-there}
use Rattle.variants.proofs.One.{answered-by, is-moved, none-moved}
use Rattle.variants.specs.Flights.{moved, with_craft}
use Rattle.variants.specs.Made.{with_parts}
use Rattle.variants.specs.declared.change.Change.TheVariants.{Shifted}
use Rattle.variants.specs.declared.change.Quantity.TheVariants.{Start}
use Rattle.variants.proofs.flights.with_start.Goals as goal

pub returns-in_default : goal.returns-in_default
returns-in_default c d v =
    let fits : FitsSigned w64 c.args.feet = search rules in
    let out = rw (to_z-of_z w64 c.args.feet fits) at c.in_default.ensures in
    none-moved c.args.encounter.now d c.args.craft c.args.axis c.args.feet c.index-crafts-index.result (search rules) out v.encounter v.varied

pub returns : goal.returns
returns c =
    let e = c.args.encounter.now in
    let fits : FitsSigned w64 c.args.feet = search rules in
    let there : c.args.craft < length e.crafts = search rules in
    let value = rw (to_z-of_z w64 c.args.feet fits) at c.in-Some.ensures in
    let same : set e.crafts c.args.craft (moved c.args.axis c.args.feet c.index-crafts-index.result) ≡ with_craft c.args.craft (moved c.args.axis c.args.feet) e.crafts =
    ap (λ s. set e.crafts c.args.craft (moved c.args.axis c.args.feet s)) (search rules) ∙ sym (craft-there e.crafts c.args.craft (moved c.args.axis c.args.feet) c.index-crafts-index.result there) in
    let crafts : c.in_ok-with_craft.field-0.items ≡ with_craft c.args.craft (moved c.args.axis c.args.feet) e.crafts = rw (value, c.crafts-3.ensures.value, c.from-index.ensures) at c.in_ok-with_craft.ensures ∙ same in
    let legs : c.in_ok-from_slice.field-0.items ≡ e.legs = c.in_ok-from_slice.ensures.items ∙ c.legs.ensures.value in
    let fates : c.in_ok-from_slice-2.field-0.items ≡ e.fates = c.in_ok-from_slice-2.ensures.items ∙ c.fates.ensures.value in
    answered-by e (Shifted (record { quantity = Start c.args.axis; craft = c.args.craft; value = c.args.feet }))
    (with_parts e c.in_ok-with_craft.field-0.items c.in_ok-from_slice.field-0.items c.in_ok-from_slice-2.field-0.items) c.made_inside.result
    (rw (crafts, legs, fates) refl) (is-moved e c.args.craft c.args.axis c.args.feet there) c.made_inside.ensures
