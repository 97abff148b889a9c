-- A sum of rates is what it would be if none moved, and what the moves gain, up or down.
use Rattle.std.proofs.Common.{◌≡◌, ℕ, zero, suc, ◌+◌, ◌-◌, ◌*◌, ℤ, pos, negsuc, neg_ℤ, ◌+ℤ◌, ◌-ℤ◌, ◌*ℤ◌, ◌≤ℤ◌, unsigned_abs, Bool, true, false, inl, inr, refl, sym, ap, ap₂, ◌∙◌, cond, leb, leb-true, leb-false, arith}
use Rattle.std.proofs.lemmas.Bool.{cond_both, cases_lt}
use Rattle.std.proofs.lemmas.Int.{ints, clamps}
use Rattle.std.specs.Prelude.{int_le}
use Rattle.std.specs.Int.{int_min, int_max}
use Rattle.project.specs.Projection.{rate_at, rates}
use Rattle.project.specs.Gained.{gain, gains, toward}
use Rattle.project.proofs.Closed.{gain-below}

-- From a rate to its goal.
abbrev distance : ℤ → ℤ → ℕ
distance v goal = unsigned_abs (v -ℤ goal)

-- So much up, or down.
abbrev signed : Bool → ℕ → ℤ
signed up a = cond up (pos a) (neg_ℤ (pos a))

signed-sum : (up : Bool) (a b : ℕ) → signed up (a + b) ≡ signed up a +ℤ signed up b
signed-sum true a b = omega (arith, ints)
signed-sum false a b = omega (arith, ints)

signed-none : (up : Bool) → signed up 0 ≡ pos 0
signed-none true = refl
signed-none false = refl

-- a rate that moves by a and stops at its goal has moved by a, or by the distance.
moved : (v goal : ℤ) (a : ℕ) (up : Bool) → int_le v goal ≡ up →
    cond up (int_min (v +ℤ pos a) goal) (int_max (v -ℤ pos a) goal) ≡ v +ℤ signed up (cond (leb a (distance v goal)) a (distance v goal))
moved v goal a true e =
    cond_both (leb a (distance v goal)) a (distance v goal) (λ x. int_min (v +ℤ pos a) goal ≡ v +ℤ pos x)
    (λ t. let l = leb-true _ _ t in omega (arith, ints, clamps, e))
    (λ t. let l = leb-false _ _ t in omega (arith, ints, clamps, e))
moved v goal a false e =
    cond_both (leb a (distance v goal)) a (distance v goal) (λ x. int_max (v -ℤ pos a) goal ≡ v +ℤ neg_ℤ (pos x))
    (λ t. let l = leb-true _ _ t in omega (arith, ints, clamps, e))
    (λ t. let l = leb-false _ _ t in omega (arith, ints, clamps, e))

-- From here on the way of the goal is a parameter.

gain-none : (d step : ℕ) → gain d step 0 ≡ 0
gain-none d step = let g = gain-below d step 0 (omega arith) in omega arith

plus-none : (v t : ℤ) → t ≡ pos 0 → v ≡ v +ℤ t
plus-none v t e = omega (arith, ints)

-- The rate of a half-second is own rate and what its steps gain.
rate-is : (v goal : ℤ) (delay step h : ℕ) → rate_at v goal delay (pos step) h ≡ v +ℤ toward v goal (gain (distance v goal) step (h - delay))
rate-is v goal delay step h =
    cond_both (leb h delay) v (cond (int_le v goal) (int_min (v +ℤ pos ((h - delay) * step)) goal) (int_max (v -ℤ pos ((h - delay) * step)) goal))
    (λ x. x ≡ v +ℤ toward v goal (gain (distance v goal) step (h - delay)))
    (λ t.
    let l = leb-true _ _ t in
    let none : h - delay ≡ 0 = omega arith in
    plus-none v (toward v goal (gain (distance v goal) step (h - delay)))
    (ap (λ k. toward v goal (gain (distance v goal) step k)) none ∙ ap (toward v goal) (gain-none (distance v goal) step) ∙ signed-none (int_le v goal)))
    (λ _. moved v goal ((h - delay) * step) (int_le v goal) refl)

-- One more half-second gains what its steps do, also in the delay.
gains-more : (d step delay n : ℕ) → gains d step (suc n - delay) ≡ gains d step (n - delay) + gain d step (suc n - delay)
gains-more d step delay n =
    elim (cases_lt n delay) [
      | inl l ↦
          let before : n - delay ≡ 0 = omega arith in
          let now : suc n - delay ≡ 0 = omega arith in
          let g = gain-none d step in
          rw (before, now) (omega arith)
      | inr l ↦ let now : suc n - delay ≡ suc (n - delay) = omega arith in rw now refl
    ]

regroup : (v t u : ℤ) (n : ℕ) → (pos n *ℤ v +ℤ t) +ℤ (v +ℤ u) ≡ pos (suc n) *ℤ v +ℤ (t +ℤ u)
regroup v t u n = omega (arith, ints)

none-yet : (v t : ℤ) → t ≡ pos 0 → pos 0 ≡ pos 0 *ℤ v +ℤ t
none-yet v t e = omega (arith, ints)

rates-is : (v goal : ℤ) (delay step n : ℕ) → rates v goal delay (pos step) n ≡ pos n *ℤ v +ℤ toward v goal (gains (distance v goal) step (n - delay))
rates-is v goal delay step zero =
    let none : 0 - delay ≡ 0 = omega arith in
    none-yet v (toward v goal (gains (distance v goal) step (0 - delay)))
    (ap (λ k. toward v goal (gains (distance v goal) step k)) none ∙ signed-none (int_le v goal))
rates-is v goal delay step (suc n) =
    let before = gains (distance v goal) step (n - delay) in
    let more = gain (distance v goal) step (suc n - delay) in
    ap₂ (λ (x y : ℤ). x +ℤ y) (rates-is v goal delay step n) (rate-is v goal delay step (suc n))
    ∙ regroup v (toward v goal before) (toward v goal more) n
    ∙ ap (λ (x : ℤ). pos (suc n) *ℤ v +ℤ x) (
    sym (signed-sum (int_le v goal) before more)
    ∙ ap (toward v goal) (sym (gains-more (distance v goal) step delay n))
    )

pos-abs : (z : ℤ) → pos 1 ≤ℤ z → pos (unsigned_abs z) ≡ z
pos-abs (pos n) h = refl
pos-abs (negsuc n) h = absurd (omega (arith, ints))

-- The sum of the rates, as the code has it.
pub unmoved-and-gained : (v goal step : ℤ) (delay n : ℕ) → pos 1 ≤ℤ step →
    pos n *ℤ v +ℤ toward v goal (gains (unsigned_abs (v -ℤ goal)) (unsigned_abs step) (n - delay)) ≡ rates v goal delay step n
unmoved-and-gained v goal step delay n forward =
    sym (rates-is v goal delay (unsigned_abs step) n) ∙ ap (λ (x : ℤ). rates v goal delay x n) (pos-abs step forward)
