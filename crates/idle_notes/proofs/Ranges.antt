-- Tests of the numbers of a range.
use Rattle.std.proofs.Common.{◌≡◌, ℕ, zero, suc, ◌+◌, ◌<◌, ◌≤◌, Bool, true, false, Some, None, find, refl, sym, ap, ◌∙◌, arith, inl, inr}
use Rattle.std.specs.List.{list_all, range_with_len}
use Rattle.std.proofs.lemmas.Bool.{and_from, and_left, and_right, cases_eq, cond-false, cond-true}

-- The test gives a value for each number of the range.
abbrev pub Gives : (ℕ → Bool) → Bool → ℕ → ℕ → Type 0
Gives f b first past = (j : ℕ) → first ≤ j → j < past → f j ≡ b

-- It gives it for one number more.
pub gives-more : (f : ℕ → Bool) (b : Bool) (first last : ℕ) → Gives f b first last → f last ≡ b → Gives f b first (last + 1)
gives-more f b first last before here j low high = elim (cases_eq j last) [
  | inl same ↦ ap f same ∙ here
  | inr other ↦ before j low (omega arith)
]

pub all-hold : (f : ℕ → Bool) (first n : ℕ) → Gives f true first (first + n) → list_all f (range_with_len first n) ≡ true
all-hold f first zero each = refl
all-hold f first (suc n) each =
    and_from (f first) _ (each first (omega arith) (omega arith)) (all-hold f (first + 1) n (λ j low high. each j (omega arith) (omega arith)))

pub all-breaks : (f : ℕ → Bool) (first n k : ℕ) → first ≤ k → k < first + n → f k ≡ false → list_all f (range_with_len first n) ≡ false
all-breaks f first zero k low high fails = absurd (omega arith)
all-breaks f first (suc n) k low high fails = elim (cases_eq k first) [
  | inl same ↦ and_left (f first) (list_all f (range_with_len (first + 1) n)) (ap f (sym same) ∙ fails)
  | inr later ↦ and_right (f first) (list_all f (range_with_len (first + 1) n)) (all-breaks f (first + 1) n k (omega arith) (omega arith) fails)
]

pub find-none : (f : ℕ → Bool) (first n : ℕ) → Gives f false first (first + n) → find f (range_with_len first n) ≡ None
find-none f first zero each = refl
find-none f first (suc n) each =
    cond-false (f first) (Some first) (find f (range_with_len (first + 1) n)) (each first (omega arith) (omega arith))
    ∙ find-none f (first + 1) n (λ j low high. each j (omega arith) (omega arith))

pub find-first : (f : ℕ → Bool) (first n k : ℕ) → first ≤ k → k < first + n → Gives f false first k → f k ≡ true → find f (range_with_len first n) ≡ Some k
find-first f first zero k low high before holds = absurd (omega arith)
find-first f first (suc n) k low high before holds = elim (cases_eq k first) [
  | inl same ↦ cond-true (f first) (Some first) (find f (range_with_len (first + 1) n)) (ap f (sym same) ∙ holds) ∙ ap (λ (i : ℕ). Some i) (sym same)
  | inr later ↦
      cond-false (f first) (Some first) (find f (range_with_len (first + 1) n)) (before first (omega arith) (omega arith))
      ∙ find-first f (first + 1) n k (omega arith) (omega arith) (λ j a b. before j (omega arith) b) holds
]
