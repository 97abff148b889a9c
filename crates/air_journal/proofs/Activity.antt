-- Which aircraft are active.
use Rattle.std.proofs.Common.{◌≡◌, ℕ, Bool, true, false, Option, Some, None, sym, refl, ◌∙◌, inl, inr}
use Rattle.std.specs.Option.{option_map_or}
use Rattle.std.specs.Prelude.{IsTrue, ◌↔◌, option_map, slice_get}
use Rattle.std.proofs.lemmas.Bool.{cases_Bool}
use Rattle.acas_base.specs.Encounter.{Parts, is_active as is_active_craft, is_active_at, is_active_kind}
use Rattle.acas_base.specs.declared.craft.CraftSpec.{CraftSpec}
use Rattle.air_journal.specs.Airs.{air_of}
use Rattle.air_rules.specs.Air.{is_active}
use Rattle.craft_view.specs.Kept.{IsActive}

-- An aircraft of an encounter is active exactly where it is active in its air.
pub same-active : (e : Parts) (own : ℕ) → is_active_at e.crafts own ≡ is_active (air_of e) own
same-active e own = by_craft (slice_get e.crafts own)
  where
    by_craft : (o : Option CraftSpec) → option_map_or is_active_craft o false ≡ option_map_or is_active_kind (option_map (λ (craft : CraftSpec). craft.kind) o) false
    by_craft None = refl
    by_craft (Some craft) = refl

pub to-active : (e : Parts) (own : ℕ) → is_active (air_of e) own ≡ true → IsActive e own
to-active e own a = same-active e own ∙ a

-- What a test of it told.
pub told-active : (e : Parts) (own : ℕ) (b : Bool) → (IsTrue b ↔ IsActive e own) → is_active (air_of e) own ≡ b
told-active e own true iff = sym (same-active e own) ∙ iff.0 refl
told-active e own false iff = elim (cases_Bool (is_active (air_of e) own)) [
  | inl y ↦ absurd (let z : false ≡ true = iff.1 (to-active e own y) in cc)
  | inr n ↦ n
]
