use Rattle.std.proofs.Common.{◌∙◌, List, subst, sym}
use Rattle.std.specs.Prelude.{map}
use Rattle.acas_base.specs.Encounter.{IsEncounter, Parts}
use Rattle.flight.specs.declared.place.Place.{Place}
use Rattle.followed_advice.proofs.Made.{flies-kept, made-valid, parts-are}
use Rattle.followed_advice.specs.Keeping.{FliesKept}
use Rattle.followed_advice.proofs.kept.fly_kept.Goals as goal

pub unreachable-requires : goal.unreachable-requires
unreachable-requires c =
    let e = c.args.encounter.now in
    let rows : List (List Place) = map (λ row. row.items) c.args.rows.now in
    let parts = parts-are e c.args.named.now rows c.setting.result c.in_ok-from_slice.field-0.items c.in_ok-from_slice-2.field-0.items c.in_ok-all_legs.field-0.items
    c.in_ok-from_slice-3.field-0.items c.in_ok-from_slice-4.field-0.items c.in_ok-from_slice-5.field-0.items
    c.setting.ensures (c.in_ok-from_slice.ensures.items ∙ c.calls.ensures.value)
    (c.in_ok-from_slice-2.ensures.items ∙ c.crafts.ensures.value) c.in_ok-all_legs.ensures (c.in_ok-from_slice-3.ensures.items ∙ c.misses.ensures.value)
    (c.in_ok-from_slice-4.ensures.items ∙ c.plans.ensures.value) (c.in_ok-from_slice-5.ensures.items ∙ c.fates.ensures.value) in
    let valid = made-valid e c.args.named.now rows c.calls.ensures.valid c.requires.inside c.requires.rows c.requires.start in
    let some = c.in-None.ensures.some.1 (subst IsEncounter (sym parts) valid) in
    absurd (cc some)

pub returns : goal.returns
returns c =
    let e = c.args.encounter.now in
    let rows : List (List Place) = map (λ row. row.items) c.args.rows.now in
    let parts = parts-are e c.args.named.now rows c.setting.result c.in_ok-from_slice.field-0.items c.in_ok-from_slice-2.field-0.items c.in_ok-all_legs.field-0.items
    c.in_ok-from_slice-3.field-0.items c.in_ok-from_slice-4.field-0.items c.in_ok-from_slice-5.field-0.items
    c.setting.ensures (c.in_ok-from_slice.ensures.items ∙ c.calls.ensures.value)
    (c.in_ok-from_slice-2.ensures.items ∙ c.crafts.ensures.value) c.in_ok-all_legs.ensures (c.in_ok-from_slice-3.ensures.items ∙ c.misses.ensures.value)
    (c.in_ok-from_slice-4.ensures.items ∙ c.plans.ensures.value) (c.in_ok-from_slice-5.ensures.items ∙ c.fates.ensures.value) in
    subst (λ (m : Parts). FliesKept e c.args.named.now rows m) (sym (c.in-Some.ensures.value ∙ parts)) (flies-kept e c.args.named.now rows c.calls.ensures.valid c.requires.inside c.requires.rows c.requires.start)
