-- Numbers of a range that pass a test.
use Rattle.std.proofs.Common.{◌≡◌, ℕ, zero, suc, ◌+◌, ◌<◌, ◌≤◌, Bool, true, false, ◌||◌, cond, [], ◌∷◌, ◌++◌, Option, Some, None, sym, refl, ap, ◌∙◌, subst, arith, inl, inr, add-one}
use Rattle.std.specs.Prelude.{find}
use Rattle.std.specs.List.{list_any, range_with_len}
use Rattle.std.specs.Option.{option_or}
use Rattle.std.proofs.lemmas.Bool.{cases_lt, cond_both}
use Rattle.std.proofs.lemmas.List.{map-id}
use Rattle.std.proofs.lemmas.List.Folds.{find-append, list_any-append}
use Rattle.std.proofs.lemmas.List.FromFn.{map-range_with_len_more}
use Rattle.std.proofs.lemmas.Option.{none-some, same_Some}

-- The number itself, where it passes.
abbrev pub tested : (ℕ → Bool) → ℕ → Option ℕ
tested p k = cond (p k) (Some k) None

-- One number more.
pub range-more : (a n : ℕ) → range_with_len a (n + 1) ≡ range_with_len a n ++ (a + n) ∷ []
range-more a n =
    sym (map-id (range_with_len a (n + 1))) ∙ map-range_with_len_more (λ (k : ℕ). k) a n (a + n) refl ∙ ap (λ xs. xs ++ (a + n) ∷ []) (map-id (range_with_len a n))

pub first-more : (p : ℕ → Bool) (a n : ℕ) → find p (range_with_len a (suc n)) ≡ option_or (find p (range_with_len a n)) (tested p (a + n))
first-more p a n = ap (λ k. find p (range_with_len a k)) (sym (add-one n)) ∙ ap (find p) (range-more a n) ∙ find-append p (range_with_len a n) ((a + n) ∷ [])

-- It is a number of the range.
pub first-within : (p : ℕ → Bool) (a n k : ℕ) → find p (range_with_len a n) ≡ Some k → (a ≤ k) × (k < a + n)
first-within p a zero k is = absurd (none-some k is)
first-within p a (suc n) k is = go (p a) refl (first-within p (a + 1) n k)
  where
    go : (b : Bool) → p a ≡ b → (find p (range_with_len (a + 1) n) ≡ Some k → (a + 1 ≤ k) × (k < a + 1 + n)) → (a ≤ k) × (k < a + suc n)
    go true e rest = (let same : a ≡ k = same_Some _ _ (sym (ap (λ b. cond b (Some a) (find p (range_with_len (a + 1) n))) e) ∙ is) in (omega arith, omega arith))
    go false e rest = (let within = rest (sym (ap (λ b. cond b (Some a) (find p (range_with_len (a + 1) n))) e) ∙ is) in (omega (arith, within.0), omega (arith, within.1)))

-- It stays the first one of a longer range.
pub first-kept : (p : ℕ → Bool) (a m n k : ℕ) → find p (range_with_len a m) ≡ Some k → find p (range_with_len a (m + n)) ≡ Some k
first-kept p a m zero k is = let none : m + 0 ≡ m = omega arith in ap (λ l. find p (range_with_len a l)) none ∙ is
first-kept p a m (suc n) k is =
    let next : m + suc n ≡ suc (m + n) = omega arith in
    ap (λ l. find p (range_with_len a l)) next ∙ first-more p a (m + n) ∙ ap (λ o. option_or o (tested p (a + (m + n)))) (first-kept p a m n k is)

-- The first number is none of the first so many.
pub record IsLater (found : Option ℕ) (from : ℕ) : Type 0 where
  pub later : (k : ℕ) → found ≡ Some k → from ≤ k

later-more : (p : ℕ → Bool) (k from : ℕ) (found : Option ℕ) → from ≤ k → IsLater found from → IsLater (option_or found (tested p k)) from
later-more p k from (Some f) le is = record { later = λ j e. is.later j e }
later-more p k from None le is = cond_both (p k) (Some k) None (λ o. IsLater o from) (λ _. record { later = λ j e. subst (λ i. from ≤ i) (same_Some _ _ e) le }) (λ _. record { later = λ j e. absurd (none-some j e) })

pub first-later : (p : ℕ → Bool) (a m n : ℕ) → find p (range_with_len a m) ≡ None → IsLater (find p (range_with_len a (m + n))) (a + m)
first-later p a m zero is =
    let none : m + 0 ≡ m = omega arith in
    subst (λ o. IsLater o (a + m)) (sym (ap (λ l. find p (range_with_len a l)) none ∙ is)) (record { later = λ j e. absurd (none-some j e) })
first-later p a m (suc n) is =
    let next : m + suc n ≡ suc (m + n) = omega arith in
    subst (λ o. IsLater o (a + m)) (sym (ap (λ l. find p (range_with_len a l)) next ∙ first-more p a (m + n)))
    (later-more p (a + (m + n)) (a + m) (find p (range_with_len a (m + n))) (omega arith) (first-later p a m n is))

-- Some number passes.
pub any-range : (p : ℕ → Bool) (a n k : ℕ) → a ≤ k → k < a + n → p k ≡ true → list_any p (range_with_len a n) ≡ true
any-range p a zero k low high passes = absurd (omega arith)
any-range p a (suc n) k low high passes = elim (cases_lt a k) [
  | inl h ↦ or-right (p a) _ (any-range p (a + 1) n k (omega arith) (omega arith) passes)
  | inr h ↦ (let same : a ≡ k = omega arith in ap (λ b. b || list_any p (range_with_len (a + 1) n)) (ap p same ∙ passes))
]
  where
    or-right : (x y : Bool) → y ≡ true → (x || y) ≡ true
    or-right true y h = refl
    or-right false y h = h

-- None passes, also with one number more.
pub none-more : (p : ℕ → Bool) (a n : ℕ) → list_any p (range_with_len a n) ≡ false → p (a + n) ≡ false → list_any p (range_with_len a (n + 1)) ≡ false
none-more p a n none last = ap (list_any p) (range-more a n) ∙ list_any-append p (range_with_len a n) ((a + n) ∷ []) ∙ rw (none, last) refl
