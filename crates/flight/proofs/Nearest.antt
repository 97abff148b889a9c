-- The cycle in which two aircraft are nearest.
use Rattle.std.proofs.Common.{◌≡◌, ℕ, zero, suc, ◌+◌, ◌<◌, ◌≤◌, Bool, true, false, cond, Some, refl, sym, ap, ◌∙◌, subst, arith, inl, inr}
use Rattle.std.specs.Prelude.{find, nat_le}
use Rattle.std.specs.List.{list_all, range_with_len}
use Rattle.std.specs.Option.{option_map_or}
use Rattle.std.proofs.lemmas.Bool.{and_left, and_right, cases_lt}
use Rattle.std.proofs.lemmas.Bool.Decides.{nat_tests}
use Rattle.acas_base.specs.Encounter.{Parts}
use Rattle.flight.specs.Approach.{IsClosest, IsFirstLeast, closest_cycle, is_least, range_between}

pub least-alone : (f : ℕ → ℕ) → IsFirstLeast f 1 1
least-alone f = record {
  begun = omega arith;
  in_run = omega arith;
  least = λ k low high. (let same : 1 ≡ k = omega arith in subst (λ j. f 1 ≤ f j) same (omega arith));
  first = λ k low high. absurd (omega arith);
}

-- One number more, at which the function is less, or isn't.
pub least-new : (f : ℕ → ℕ) (n best : ℕ) → f (n + 1) < f best → IsFirstLeast f n best → IsFirstLeast f (n + 1) (n + 1)
least-new f n best less is = record {
  begun = omega arith;
  in_run = omega arith;
  least = λ k low high. elim (cases_lt k (n + 1)) [
    | inl h ↦ (let b = is.least k low (omega arith) in omega arith)
    | inr h ↦ (let same : n + 1 ≡ k = omega arith in subst (λ j. f (n + 1) ≤ f j) same (omega arith))
  ];
  first = λ k low high. (let b = is.least k low (omega arith) in omega arith);
}

pub least-kept : (f : ℕ → ℕ) (n best : ℕ) → f best ≤ f (n + 1) → IsFirstLeast f n best → IsFirstLeast f (n + 1) best
least-kept f n best more is = record {
  begun = is.begun;
  in_run = (let w = is.in_run in omega arith);
  least = λ k low high. elim (cases_lt k (n + 1)) [
    | inl h ↦ is.least k low (omega arith)
    | inr h ↦ (let same : n + 1 ≡ k = omega arith in subst (λ j. f best ≤ f j) same more)
  ];
  first = is.first;
}

-- A test that holds from one number to another.
all-range : (p : ℕ → Bool) (a n : ℕ) → ((k : ℕ) → a ≤ k → k < a + n → p k ≡ true) → list_all p (range_with_len a n) ≡ true
all-range p a zero each = refl
all-range p a (suc n) each = rw (each a (omega arith) (omega arith)) (all-range p (a + 1) n (λ k low high. each k (omega arith) (omega arith)))

not-all : (p : ℕ → Bool) (a n k : ℕ) → a ≤ k → k < a + n → p k ≡ false → list_all p (range_with_len a n) ≡ false
not-all p a zero k low high fails = absurd (omega arith)
not-all p a (suc n) k low high fails = elim (cases_lt a k) [
  | inl h ↦ and_right (p a) _ (not-all p (a + 1) n k (omega arith) (omega arith) fails)
  | inr h ↦ (let same : a ≡ k = omega arith in and_left (p a) _ (ap p same ∙ fails))
]

is-le : (a b : ℕ) → a ≤ b → nat_le a b ≡ true
is-le a b h = grind (arith, nat_tests)

is-gt : (a b : ℕ) → b < a → nat_le a b ≡ false
is-gt a b h = grind (arith, nat_tests)

-- A number that passes, and before which none does, is the first one.
first-is : (p : ℕ → Bool) (a n k : ℕ) → a ≤ k → k < a + n → p k ≡ true → ((j : ℕ) → a ≤ j → j < k → p j ≡ false) → find p (range_with_len a n) ≡ Some k
first-is p a zero k low high passes before = absurd (omega arith)
first-is p a (suc n) k low high passes before = elim (cases_lt a k) [
  | inl h ↦ ap (λ b. cond b (Some a) (find p (range_with_len (a + 1) n))) (before a (omega arith) h) ∙ first-is p (a + 1) n k (omega arith) (omega arith) passes (λ j l g. before j (omega arith) g)
  | inr h ↦ (let same : a ≡ k = omega arith in ap (λ b. cond b (Some a) (find p (range_with_len (a + 1) n))) (ap p same ∙ passes) ∙ ap Some same)
]

-- It is the cycle that the function gives.
pub closest-is : (e : Parts) (a b best : ℕ) → IsClosest e a b best → best ≡ closest_cycle e a b
unfolding closest_cycle
closest-is e a b best is =
    let f : ℕ → ℕ = range_between e a b in
    let least : is_least e a b best ≡ true = all-range (λ other. nat_le (f best) (f other)) 1 e.cycles (λ k low high. is-le (f best) (f k) (is.least k low (omega arith))) in
    let before : (j : ℕ) → 1 ≤ j → j < best → is_least e a b j ≡ false =
    λ j low high. not-all (λ other. nat_le (f j) (f other)) 1 e.cycles best (is.begun) (let w = is.in_run in omega arith) (is-gt (f j) (f best) (is.first j low high)) in
    sym (ap (λ found. option_map_or (λ cycle. cycle) found 0) (first-is (is_least e a b) 1 e.cycles best is.begun (let w = is.in_run in omega arith) least before))
