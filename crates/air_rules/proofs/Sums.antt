-- Sums over the first numbers, and how many of them pass a test.
use Rattle.std.proofs.Common.{◌≡◌, ℕ, zero, suc, ◌+◌, ◌*◌, ◌<◌, ◌≤◌, Bool, true, false, not, ◌&&◌, cond, eqb, refl, ap, ◌∙◌, subst, arith, inl, inr, eq-eqb, ne_eqb, zero-le}
use Rattle.std.proofs.lemmas.Bool.{cond-false, cond-true, cases_Bool, cases_eq, and_right}
use Rattle.air_rules.specs.Length.{count_below}

unfoldable pub total : (ℕ → ℕ) → ℕ → ℕ
total f zero = 0
total f (suc n) = total f n + f n

pub total-last : (f : ℕ → ℕ) (n : ℕ) → total f (suc n) ≡ total f n + f n
unfolding total
total-last f n = refl

pub total-le : (f g : ℕ → ℕ) (n : ℕ) → ((k : ℕ) → k < n → f k ≤ g k) → total f n ≤ total g n
unfolding total
total-le f g zero h = zero-le
total-le f g (suc n) h =
    let a : total f n ≤ total g n = total-le f g n (λ k l. h k (omega arith)) in
    let b : f n ≤ g n = h n (omega arith) in
    omega arith

-- One summand grows.
pub total-more : (f g : ℕ → ℕ) (n m : ℕ) → m < n → f m + 1 ≤ g m → ((k : ℕ) → k < n → f k ≤ g k) → total f n + 1 ≤ total g n
unfolding total
total-more f g zero m l one h = absurd (omega arith)
total-more f g (suc n) m l one h =
    let b : f n ≤ g n = h n (omega arith) in
    let ih = total-more f g n m in
    elim (cases_eq m n) [
      | inl e ↦
          let a : total f n ≤ total g n = total-le f g n (λ k x. h k (omega arith)) in
          let c : f n + 1 ≤ g n = subst (λ (k : ℕ). f k + 1 ≤ g k) e one in
          omega arith
      | inr ne ↦ let a : total f n + 1 ≤ total g n = ih (omega arith) one (λ k x. h k (omega arith)) in omega arith
    ]

-- A number for each that passes.
pub total-each : (test : ℕ → Bool) (c n : ℕ) → total (λ k. cond (test k) c 0) n ≡ count_below test n * c
unfolding total
total-each test c zero = omega arith
total-each test c (suc n) =
    let ih : total (λ k. cond (test k) c 0) n ≡ count_below test n * c = total-each test c n in
    elim (cases_Bool (test n)) [
      | inl y ↦
          let a : cond (test n) c 0 ≡ c = cond-true (test n) c 0 y in
          let b : count_below test (suc n) ≡ count_below test n + 1 = cond-true (test n) _ _ y in
          rw b (omega arith)
      | inr m ↦
          let a : cond (test n) c 0 ≡ 0 = cond-false (test n) c 0 m in
          let b : count_below test (suc n) ≡ count_below test n = cond-false (test n) _ _ m in
          rw b (omega arith)
    ]

-- As many pass two tests that agree.
count-same : (f g : ℕ → Bool) (n : ℕ) → ((k : ℕ) → k < n → f k ≡ g k) → count_below f n ≡ count_below g n
count-same f g zero h = refl
count-same f g (suc n) h =
    let ih : count_below f n ≡ count_below g n = count-same f g n (λ k l. h k (omega arith)) in
    λ t. cond (h n (omega arith) t) (ih t + 1) (ih t)

-- All but one.
pub count-but : (test : ℕ → Bool) (n i : ℕ) → i < n → test i ≡ true → count_below (λ k. test k && not (eqb i k)) n + 1 ≡ count_below test n
count-but test zero i h t = absurd (omega arith)
count-but test (suc n) i h t =
    let ih = count-but test n i in
    let other = λ (k : ℕ). test k && not (eqb i k) in
    elim (cases_eq i n) [
      | inl e ↦
          let here : other n ≡ false = and_right (test n) _ (ap not (eq-eqb i n e)) in
          let a : count_below other (suc n) ≡ count_below other n = cond-false (other n) _ _ here in
          let b : count_below test (suc n) ≡ count_below test n + 1 = cond-true (test n) _ _ (subst (λ (k : ℕ). test k ≡ true) e t) in
          let c : count_below other n ≡ count_below test n = count-same other test n (λ k l. apart k (ne_eqb i k (omega arith))) in
          omega arith
      | inr ne ↦
          let rest : count_below other n + 1 ≡ count_below test n = ih (omega arith) t in
          let same : other n ≡ test n = apart n (ne_eqb i n ne) in
          elim (cases_Bool (test n)) [
            | inl y ↦
                let a : count_below other (suc n) ≡ count_below other n + 1 = cond-true (other n) _ _ (same ∙ y) in
                let b : count_below test (suc n) ≡ count_below test n + 1 = cond-true (test n) _ _ y in
                omega arith
            | inr m ↦
                let a : count_below other (suc n) ≡ count_below other n = cond-false (other n) _ _ (same ∙ m) in
                let b : count_below test (suc n) ≡ count_below test n = cond-false (test n) _ _ m in
                omega arith
          ]
    ]
  where
    apart : (k : ℕ) → eqb i k ≡ false → (test k && not (eqb i k)) ≡ test k
    apart k e = ap (λ (b : Bool). test k && not b) e ∙ always (test k)
      where
        always : (b : Bool) → (b && true) ≡ b
        always true = refl
        always false = refl
