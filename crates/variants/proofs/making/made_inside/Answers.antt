use Rattle.std.proofs.Common.{◌≡◌, ◌∙◌, refl, subst, sym}
use Rattle.acas_base.specs.Encounter.{IsEncounter, Parts}
use Rattle.flight.specs.Inside.{IsInside}
use Rattle.variants.proofs.One.{parts-made}
use Rattle.variants.specs.Made.{with_parts}
use Rattle.variants.proofs.making.made_inside.Goals as goal

pub returns-then-not-inside : goal.returns-then-not-inside
returns-then-not-inside c fit =
    let e = c.args.encounter.now in
    let parts = parts-made e c.setting.result c.in_ok-from_slice.field-0.items c.args.crafts.items c.args.legs.items
    c.in_ok-from_slice-2.field-0.items c.in_ok-from_slice-3.field-0.items c.args.fates.items
    c.setting.ensures (c.in_ok-from_slice.ensures.items ∙ c.calls.ensures.value)
    (c.in_ok-from_slice-2.ensures.items ∙ c.misses.ensures.value) (c.in_ok-from_slice-3.ensures.items ∙ c.plans.ensures.value) in
    let value : c.in-Some.made ≡ with_parts e c.args.crafts.items c.args.legs.items c.args.fates.items = c.in-Some.ensures.value ∙ parts in
    let inside = c.inside.ensures.1 (subst (λ (m : Parts). IsInside m) (sym value) fit.inside) in
    absurd (cc (inside, c.if-not-inside.true))

pub returns : goal.returns
returns c =
    let e = c.args.encounter.now in
    let parts = parts-made e c.setting.result c.in_ok-from_slice.field-0.items c.args.crafts.items c.args.legs.items
    c.in_ok-from_slice-2.field-0.items c.in_ok-from_slice-3.field-0.items c.args.fates.items
    c.setting.ensures (c.in_ok-from_slice.ensures.items ∙ c.calls.ensures.value)
    (c.in_ok-from_slice-2.ensures.items ∙ c.misses.ensures.value) (c.in_ok-from_slice-3.ensures.items ∙ c.plans.ensures.value) in
    let value : c.in-Some.made ≡ with_parts e c.args.crafts.items c.args.legs.items c.args.fates.items = c.in-Some.ensures.value ∙ parts in
    (value, record { encounter = subst IsEncounter (sym c.in-Some.ensures.value) (c.in-Some.ensures.some.0 refl); inside = c.inside.ensures.0 c.if-not-inside.false })
