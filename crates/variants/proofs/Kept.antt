-- What filters and a search leave.
use Rattle.std.proofs.Common.{◌≡◌, Bool, true, false, List, [], ◌∷◌, None, refl, sym, ap, ◌∙◌, inl, inr}
use Rattle.std.specs.Prelude.{filter, find}
use Rattle.std.proofs.lemmas.Bool.{cases_Bool, true≢false}

-- A filter after one that keeps all that it keeps.
pub filter-within : {X : Type 0} (p q : X → Bool) (xs : List X) → ((x : X) → p x ≡ true → q x ≡ true) → filter p (filter q xs) ≡ filter p xs
filter-within p q [] keeps = refl
filter-within p q (x ∷ xs) keeps = elim (cases_Bool (q x)) [
  | inl h ↦ elim (cases_Bool (p x)) [
    | inl g ↦ rw (h, g) (ap (λ l. x ∷ l) (filter-within p q xs keeps))
    | inr g ↦ rw (h, g) (filter-within p q xs keeps)
  ]
  | inr h ↦ elim (cases_Bool (p x)) [
    | inl g ↦ absurd (true≢false (sym (keeps x g) ∙ h))
    | inr g ↦ rw (h, g) (filter-within p q xs keeps)
  ]
]

-- A filter after one that keeps nothing of what it keeps.
pub filter-apart : {X : Type 0} (p q : X → Bool) (xs : List X) → ((x : X) → p x ≡ true → q x ≡ false) → filter p (filter q xs) ≡ []
filter-apart p q [] drops = refl
filter-apart p q (x ∷ xs) drops = elim (cases_Bool (q x)) [
  | inl h ↦ elim (cases_Bool (p x)) [
    | inl g ↦ absurd (true≢false (sym h ∙ drops x g))
    | inr g ↦ rw (h, g) (filter-apart p q xs drops)
  ]
  | inr h ↦ rw h (filter-apart p q xs drops)
]

-- A search among what a filter keeps.
pub find-within : {X : Type 0} (p q : X → Bool) (xs : List X) → ((x : X) → p x ≡ true → q x ≡ true) → find p (filter q xs) ≡ find p xs
find-within p q [] keeps = refl
find-within p q (x ∷ xs) keeps = elim (cases_Bool (q x)) [
  | inl h ↦ elim (cases_Bool (p x)) [
    | inl g ↦ rw (h, g) refl
    | inr g ↦ rw (h, g) (find-within p q xs keeps)
  ]
  | inr h ↦ elim (cases_Bool (p x)) [
    | inl g ↦ absurd (true≢false (sym (keeps x g) ∙ h))
    | inr g ↦ rw (h, g) (find-within p q xs keeps)
  ]
]

pub find-apart : {X : Type 0} (p q : X → Bool) (xs : List X) → ((x : X) → p x ≡ true → q x ≡ false) → find p (filter q xs) ≡ None
find-apart p q [] drops = refl
find-apart p q (x ∷ xs) drops = elim (cases_Bool (q x)) [
  | inl h ↦ elim (cases_Bool (p x)) [
    | inl g ↦ absurd (true≢false (sym h ∙ drops x g))
    | inr g ↦ rw (h, g) (find-apart p q xs drops)
  ]
  | inr h ↦ rw h (find-apart p q xs drops)
]
