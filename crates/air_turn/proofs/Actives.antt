-- The active aircraft of an encounter.
use Rattle.std.proofs.Common.{◌≡◌, ℕ, zero, suc, ◌+◌, ◌-◌, ◌<◌, ◌≤◌, Bool, true, false, ◌||◌, List, [], ◌∷◌, ◌++◌, filter, length, Option, Some, refl, ap, sym, ◌∙◌, inl, inr, arith, append_assoc, append-nil, lt_of_not-le, le_refl, true≢false}
use Rattle.std.specs.Prelude.{IsTrue, ◌==◌, if◌then◌else◌, option_map, slice_get}
use Rattle.std.specs.List.{list_any, range_with_len}
use Rattle.std.specs.Option.{option_map_or}
use Rattle.std.proofs.lemmas.Bool.{cases_Bool, cond-false, cond-true}
use Rattle.std.proofs.lemmas.Option.{slice_get_within}
use mathlib.Core.Logic.{dite}
use native.Mathlib.Decide.{dec_le}
use Rattle.acas_base.specs.Encounter.{IsEncounter, Parts, is_active as is_active_craft, is_active_kind, most_crafts}
use Rattle.acas_base.specs.declared.TheConstants.{CRAFTS}
use Rattle.acas_base.specs.declared.craft.CraftSpec.{CraftSpec}
use Rattle.air_journal.proofs.Activity.{same-active}
use Rattle.air_journal.specs.Airs.{air_of}
use Rattle.air_rules.specs.Air.{is_active}
use Rattle.craft_view.specs.Kept.{IsActive}
use Rattle.air_turn.specs.Rule.{active_of}
use Rattle.air_turn.specs.Totals.{total, one}

module _ (test : ℕ → Bool) where
  abbrev pub among : ℕ → ℕ → List ℕ
  among low n = filter test (range_with_len low n)

  pub among-yes : (low n : ℕ) → test low ≡ true → among low (suc n) ≡ low ∷ among (low + 1) n
  among-yes low n y = cond-true (test low) _ _ y

  pub among-no : (low n : ℕ) → test low ≡ false → among low (suc n) ≡ among (low + 1) n
  among-no low n y = cond-false (test low) _ _ y

  -- Where one of them passes, there is one.
  some-passes : (low n x : ℕ) → low ≤ x → x < low + n → test x ≡ true → 1 ≤ total (λ y. 1) (among low n)
  some-passes low zero x le less y = absurd (omega arith)
  some-passes low (suc n) x le less y =
      elim (cases_Bool (test low)) [
        | inl z ↦ let is = ap (total (λ y. 1)) (among-yes low n z) in omega arith
        | inr z ↦ (let is = ap (total (λ y. 1)) (among-no low n z) in
            let apart : low ≡ x → ⊥ = λ same. true≢false (sym (sym z ∙ (ap test same ∙ y))) in
            let above : low + 1 ≤ x = dite (dec_le (low + 1) x) (λ h. h) (λ h. absurd (apart (let far = lt_of_not-le h in omega arith))) in
            let rest = some-passes (low + 1) n x above (omega arith) y in
            omega arith)
      ]

  none-below : (low n x : ℕ) → x < low → total (one x) (among low n) ≡ 0
  none-below low zero x less = refl
  none-below low (suc n) x less =
      let rest = none-below (low + 1) n x (omega arith) in
      elim (cases_Bool (test low)) [
        | inl y ↦ ap (total (one x)) (among-yes low n y) ∙ omega arith
        | inr y ↦ ap (total (one x)) (among-no low n y) ∙ rest
      ]

  each-once : (low n x : ℕ) → total (one x) (among low n) ≤ 1
  each-once low zero x = omega arith
  each-once low (suc n) x =
      let rest = each-once (low + 1) n x in
      elim (cases_Bool (test low)) [
        | inl y ↦ (let is = ap (total (one x)) (among-yes low n y) in dite (dec_le x low)
            (λ le. let below = none-below (low + 1) n x (omega arith) in omega arith)
            (λ more. let far = lt_of_not-le more in omega arith))
        | inr y ↦ let is = ap (total (one x)) (among-no low n y) in omega arith
      ]

  no-more : (low n : ℕ) → total (λ x. 1) (among low n) ≤ n
  no-more low zero = omega arith
  no-more low (suc n) =
      let rest = no-more (low + 1) n in
      elim (cases_Bool (test low)) [
        | inl y ↦ let is = ap (total (λ x. 1)) (among-yes low n y) in omega arith
        | inr y ↦ let is = ap (total (λ x. 1)) (among-no low n y) in omega arith
      ]

most-16 : (version : ℕ) → most_crafts version ≤ 16
most-16 version = elim (version == 1) as (λ b. (if b then 8 else CRAFTS) ≤ 16) [ true ↦ omega arith | false ↦ le_refl 16 ]

pub once-active : (e : Parts) (x : ℕ) → total (one x) (active_of e) ≤ 1
unfolding active_of
once-active e x = each-once (is_active (air_of e)) 0 (length e.crafts) x

pub few-active : (e : Parts) → IsEncounter e → total (λ x. 1) (active_of e) ≤ 16
unfolding active_of
few-active e valid =
    let few = valid.crafts.few in
    let most = most-16 e.version in
    let no = no-more (is_active (air_of e)) 0 (length e.crafts) in
    omega arith

-- Where some aircraft is active, one of them is.
record SomeCraft (crafts : List CraftSpec) : Type 0 where
  at : ℕ
  craft : CraftSpec
  there : slice_get crafts at ≡ Some craft
  active : is_active_craft craft ≡ true

some-craft : (crafts : List CraftSpec) → IsTrue (list_any is_active_craft crafts) → SomeCraft crafts
some-craft [] h = absurd (true≢false (sym h))
some-craft (craft ∷ crafts) h =
    elim (cases_Bool (is_active_craft craft)) [
      | inl y ↦ record { at = 0; craft = craft; there = refl; active = y }
      | inr n ↦ (let rest = some-craft crafts (sym (ap (λ b. b || list_any is_active_craft crafts) n) ∙ h) in
          record { at = suc rest.at; craft = rest.craft; there = rest.there; active = rest.active })
    ]

pub some-active : (e : Parts) → IsEncounter e → 1 ≤ total (λ x. 1) (active_of e)
unfolding active_of
some-active e valid =
    let found = some-craft e.crafts valid.crafts.active in
    some-passes (is_active (air_of e)) 0 (length e.crafts) found.at (omega arith) (let within = slice_get_within e.crafts found.at found.craft found.there in omega arith)
    (ap (λ (o : Option CraftSpec). option_map_or is_active_kind (option_map (λ (craft : CraftSpec). craft.kind) o) false) found.there ∙ found.active)

is-active : (e : Parts) (own : ℕ) → IsActive e own → is_active (air_of e) own ≡ true
is-active e own active = sym (same-active e own) ∙ active

not-active : (e : Parts) (own : ℕ) → (IsActive e own → ⊥) → is_active (air_of e) own ≡ false
not-active e own idle = elim (cases_Bool (is_active (air_of e) own)) [
  | inl y ↦ absurd (idle (same-active e own ∙ y))
  | inr n ↦ n
]

-- The active aircraft from an index on.
unfoldable pub active_from : Parts → ℕ → List ℕ
active_from e own = among (is_active (air_of e)) own (length e.crafts - own)

pub from-first : (e : Parts) → active_from e 0 ≡ active_of e
unfolding active_of active_from
from-first e = ap (among (is_active (air_of e)) 0) (whole (length e.crafts))
  where
    whole : (n : ℕ) → n - 0 ≡ n
    whole n = omega arith

pub from-last : (e : Parts) (own : ℕ) → length e.crafts ≤ own → active_from e own ≡ []
unfolding active_from
from-last e own past = ap (among (is_active (air_of e)) own) (none (length e.crafts) own past)
  where
    none : (n own : ℕ) → n ≤ own → n - own ≡ 0
    none n own past = omega arith

one-less : (n own : ℕ) → own < n → n - own ≡ suc (n - (own + 1))
one-less n own less = omega arith

pub from-yes : (e : Parts) (own : ℕ) → own < length e.crafts → is_active (air_of e) own ≡ true → active_from e own ≡ own ∷ active_from e (own + 1)
unfolding active_from
from-yes e own less y = ap (among (is_active (air_of e)) own) (one-less (length e.crafts) own less) ∙ among-yes (is_active (air_of e)) own (length e.crafts - (own + 1)) y

pub from-no : (e : Parts) (own : ℕ) → own < length e.crafts → is_active (air_of e) own ≡ false → active_from e own ≡ active_from e (own + 1)
unfolding active_from
from-no e own less n = ap (among (is_active (air_of e)) own) (one-less (length e.crafts) own less) ∙ among-no (is_active (air_of e)) own (length e.crafts - (own + 1)) n

-- One aircraft more was looked at.
pub found-one : (e : Parts) (owns owns' : List ℕ) (own : ℕ) → own < length e.crafts → IsActive e own → owns ++ active_from e own ≡ active_of e → owns' ≡ owns ++ own ∷ [] → owns' ++ active_from e (own + 1) ≡ active_of e
found-one e owns owns' own less active all is =
    ap (λ l. l ++ active_from e (own + 1)) is ∙ (append_assoc owns (own ∷ []) (active_from e (own + 1)) ∙ (ap (λ l. owns ++ l) (sym (from-yes e own less (is-active e own active))) ∙ all))

pub found-none : (e : Parts) (owns : List ℕ) (own : ℕ) → own < length e.crafts → (IsActive e own → ⊥) → owns ++ active_from e own ≡ active_of e → owns ++ active_from e (own + 1) ≡ active_of e
found-none e owns own less idle all = ap (λ l. owns ++ l) (sym (from-no e own less (not-active e own idle))) ∙ all

pub found-all : (e : Parts) (owns : List ℕ) (own : ℕ) → length e.crafts ≤ own → owns ++ active_from e own ≡ active_of e → owns ≡ active_of e
found-all e owns own past all = sym (append-nil owns) ∙ (ap (λ l. owns ++ l) (sym (from-last e own past)) ∙ all)
