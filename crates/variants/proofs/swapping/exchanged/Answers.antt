use Rattle.std.proofs.Common.{◌≡◌, ◌<◌, ◌∙◌, ap, length, refl, rules}
use Rattle.variants.proofs.One.{answered-by, is-exchanged}
use Rattle.variants.specs.Exchanges.{exchanged}
use Rattle.variants.specs.Made.{with_parts}
use Rattle.variants.specs.declared.change.Change.TheVariants.{Exchanged}
use Rattle.variants.proofs.swapping.exchanged.Goals as goal

pub returns : goal.returns
returns c =
    let e = c.args.encounter.now in
    let pair = c.args.pair in
    let one : pair.one < length e.crafts = search rules in
    let two : pair.two < length e.crafts = search rules in
    let crafts : c.in_ok-exchanged_crafts.field-0.items ≡ exchanged pair e.crafts = c.in_ok-exchanged_crafts.ensures ∙ ap (exchanged pair) c.crafts.ensures.value in
    let legs : c.in_ok-from_slice.field-0.items ≡ e.legs = c.in_ok-from_slice.ensures.items ∙ c.legs.ensures.value in
    let fates : c.in_ok-from_slice-2.field-0.items ≡ e.fates = c.in_ok-from_slice-2.ensures.items ∙ c.fates.ensures.value in
    answered-by e (Exchanged pair) (with_parts e c.in_ok-exchanged_crafts.field-0.items c.in_ok-from_slice.field-0.items c.in_ok-from_slice-2.field-0.items) c.made_inside.result
    (rw (crafts, legs, fates) refl) (is-exchanged e pair one two) c.made_inside.ensures
