-- A ceiling is set at the place of its aircraft.
use Rattle.std.proofs.Common.{◌≡◌, ℕ, ◌<◌, List, length, get_or, set, map, Some, sym, ◌∙◌, ap, arith, inl, inr}
use Rattle.std.specs.Prelude.{ℤ, AllPairs, ◌==◌}
use Rattle.std.proofs.lemmas.Bool.{cases_order, cond-false, cond-true, eq-eqb, ne_eqb}
use Rattle.std.proofs.lemmas.Grind.{get_or-set_at}
use Rattle.std.proofs.lemmas.List.{ext_get_or, get_or-map, get_or-set_other, length-map, length-set}
use Rattle.acas_base.specs.Encounter.{AreApart}
use Rattle.acas_base.specs.declared.craft.CraftSpec.{CraftSpec}
use Rattle.enc_file.specs.Earlier.{index_of, with_ceiling}
use Rattle.enc_file.proofs.Named.{index-address, index-within}

-- The aircraft with a ceiling.
abbrev pub limited : ℤ → CraftSpec → CraftSpec
limited limit craft = record craft { ceiling = Some limit }

ceiling-here : (address : ℕ) (limit : ℤ) (craft : CraftSpec) → craft.address ≡ address → with_ceiling address limit craft ≡ limited limit craft
ceiling-here address limit craft is = cond-true (craft.address == address) (limited limit craft) craft (eq-eqb craft.address address is)

ceiling-there : (address : ℕ) (limit : ℤ) (craft : CraftSpec) → (craft.address ≡ address → ⊥) → with_ceiling address limit craft ≡ craft
ceiling-there address limit craft other = cond-false (craft.address == address) (limited limit craft) craft (ne_eqb craft.address address other)

-- It is the only one with its address.
climb-other : (crafts : List CraftSpec) (address i k : ℕ) (limit : ℤ) (d : CraftSpec) → i < length crafts → k < length crafts → ((get_or crafts k d).address ≡ address → ⊥) → (k ≡ i → ⊥)
    → get_or (set crafts i (limited limit (get_or crafts i d))) k d ≡ get_or (map (with_ceiling address limit) crafts) k d
climb-other crafts address i k limit d within h other apart =
    get_or-set_other crafts i k (limited limit (get_or crafts i d)) d apart ∙ sym (ceiling-there address limit (get_or crafts k d) other)
    ∙ sym (get_or-map (with_ceiling address limit) crafts k d d h)

climb-here : (crafts : List CraftSpec) (address i k : ℕ) (limit : ℤ) (d : CraftSpec) → i < length crafts → (get_or crafts i d).address ≡ address → k ≡ i
    → get_or (set crafts i (limited limit (get_or crafts i d))) k d ≡ get_or (map (with_ceiling address limit) crafts) k d
climb-here crafts address i k limit d within is same =
    get_or-set_at crafts i k (limited limit (get_or crafts i d)) d same within ∙ sym (ceiling-here address limit (get_or crafts i d) is)
    ∙ sym (get_or-map (with_ceiling address limit) crafts i d d within) ∙ ap (λ n. get_or (map (with_ceiling address limit) crafts) n d) (sym same)

pub ceiling-set : (crafts : List CraftSpec) (address i : ℕ) (limit : ℤ) (d : CraftSpec) → AllPairs AreApart crafts → index_of crafts address ≡ Some i
    → set crafts i (limited limit (get_or crafts i d)) ≡ map (with_ceiling address limit) crafts
ceiling-set crafts address i limit d apart is =
    let within = index-within crafts address i is in
    let named = index-address crafts address i d is in
    let new = limited limit (get_or crafts i d) in
    ext_get_or d (set crafts i new) (map (with_ceiling address limit) crafts) (length-set crafts i new ∙ sym (length-map crafts (with_ceiling address limit)))
    (λ k less.
    let h : k < length crafts = omega (arith, less, length-set crafts i new) in
    elim (cases_order k i) [
      | inl same ↦ climb-here crafts address i k limit d within named same
      | inr (inl low) ↦ climb-other crafts address i k limit d within h (λ e. apart k i d low within (e ∙ sym named)) (λ e. omega (arith, e, low))
      | inr (inr high) ↦ climb-other crafts address i k limit d within h (λ e. apart i k d high h (named ∙ sym e)) (λ e. omega (arith, e, high))
    ])
