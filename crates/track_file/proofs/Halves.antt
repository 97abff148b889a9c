-- The nearest multiple of a unit, and between which bounds it lies.
use Rattle.std.proofs.Common.{◌≡◌, ℕ, zero, suc, ◌+◌, ◌*◌, ◌<◌, ◌≤◌, ℤ, pos, negsuc, neg_ℤ, ◌+ℤ◌, ◌*ℤ◌, ◌∙◌, ap, arith, inl, inr, mul-le-mul_right, subst}
use Rattle.std.specs.Prelude.{◌<ℤ◌, ◌≤ℤ◌}
use Rattle.std.specs.Int.{int_div_euclid}
use Rattle.std.proofs.lemmas.Bool.{cases_eq, eq-eqb, ne_eqb}
use Rattle.std.proofs.lemmas.Int.{by_lt_z, ints}
use Rattle.acas_num.specs.Division.{IsQuotient}
use Rattle.acas_num.proofs.Quotients.{quotient}
use Rattle.track_file.specs.Rounding.{IsNear, mean, nearest}
use Rattle.track_file.specs.declared.rounding.Fraction.{Fraction}

-- Twice the unit times a number, as it stands in the two inequalities.
scaled-pos : (unit bottom k : ℕ) → 2 * ((unit * k) * bottom) ≡ k * (2 * (unit * bottom))
scaled-pos unit bottom k = grind arith

neg-times : (m n : ℕ) → neg_ℤ (pos m) *ℤ pos n ≡ neg_ℤ (pos (m * n))
neg-times zero n = omega (arith, ints)
neg-times (suc m) n = omega (arith, ints)

times-neg : (m k : ℕ) → pos m *ℤ negsuc k ≡ neg_ℤ (pos (m * suc k))
times-neg m k = omega (arith, ints)

scaled : (unit bottom : ℕ) (q : ℤ) → pos 2 *ℤ ((pos unit *ℤ q) *ℤ pos bottom) ≡ q *ℤ pos (2 * (unit * bottom))
scaled unit bottom (pos k) = let e = scaled-pos unit bottom k in omega (arith, ints, e)
scaled unit bottom (negsuc k) = let e = scaled-pos unit bottom (suc k) in rw (times-neg unit k, neg-times (unit * suc k) bottom) (omega (arith, ints, e))

next-times : (q : ℤ) (s : ℕ) → (q +ℤ pos 1) *ℤ pos (2 * s) ≡ (q *ℤ pos (2 * s)) +ℤ pos (s + s)
next-times (pos k) s = omega (arith, ints)
next-times (negsuc zero) s = omega (arith, ints)
next-times (negsuc (suc k)) s = let e : negsuc (suc k) +ℤ pos 1 ≡ negsuc k = omega (arith, ints) in rw e (omega (arith, ints))

-- The multiple of the unit by the quotient is near.
pub near-by : (unit : ℕ) (f : Fraction) (q : ℤ) → IsQuotient ((pos 2 *ℤ f.top) +ℤ pos (unit * f.bottom)) (pos (2 * (unit * f.bottom))) q → IsNear unit f (pos unit *ℤ q)
near-by unit f q is =
    let same = scaled unit f.bottom q in
    let next = next-times q (unit * f.bottom) in
    record { not_above = omega (arith, ints, same, is.within); not_below = omega (arith, ints, same, next, is.no_more) }

above-zero : (unit bottom : ℕ) → 0 < unit → 0 < bottom → pos 0 <ℤ pos (2 * (unit * bottom))
above-zero unit bottom h g = let l : 0 < unit * bottom = grind arith in omega (arith, ints, l)

pub nearest-quotient : (unit : ℕ) (f : Fraction) → 0 < unit → 0 < f.bottom
    → IsQuotient ((pos 2 *ℤ f.top) +ℤ pos (unit * f.bottom)) (pos (2 * (unit * f.bottom))) (int_div_euclid ((pos 2 *ℤ f.top) +ℤ pos (unit * f.bottom)) (pos (2 * (unit * f.bottom))))
nearest-quotient unit f h g = quotient ((pos 2 *ℤ f.top) +ℤ pos (unit * f.bottom)) (pos (2 * (unit * f.bottom))) (above-zero unit f.bottom h g)

pub nearest-near : (unit : ℕ) (f : Fraction) → 0 < unit → 0 < f.bottom → IsNear unit f (nearest unit f)
nearest-near unit f h g = near-by unit f _ (nearest-quotient unit f h g)

-- A product with a number that isn't below 0 keeps an order.
times-more : (a c : ℤ) (n : ℕ) → a ≤ℤ c → (a *ℤ pos n) ≤ℤ (c *ℤ pos n)
times-more (pos a) (pos c) n h = let l : a * n ≤ c * n = mul-le-mul_right n (omega (arith, ints, h)) in omega (arith, ints, l)
times-more (pos a) (negsuc c) n h = absurd (omega (arith, ints, h))
times-more (negsuc a) (pos c) n h = omega (arith, ints)
times-more (negsuc a) (negsuc c) n h = let l : suc c * n ≤ suc a * n = mul-le-mul_right n (omega (arith, ints, h)) in omega (arith, ints, l)

times-sum : (a : ℤ) (m n : ℕ) → a *ℤ pos (m + n) ≡ (a *ℤ pos m) +ℤ (a *ℤ pos n)
times-sum (pos a) m n = omega (arith, ints)
times-sum (negsuc a) m n = omega (arith, ints)

-- The mean of two values lies between bounds of both.
mean-low : (low first second : ℤ) (weight other : ℕ) → low ≤ℤ first → low ≤ℤ second → (low *ℤ pos (mean first weight second other).bottom) ≤ℤ (mean first weight second other).top
mean-low low first second weight other one two = elim (cases_eq (weight + other) 0) [
  | inl h ↦ rw (eq-eqb (weight + other) 0 h) (omega (arith, ints, one))
  | inr h ↦
      rw (ne_eqb (weight + other) 0 h)
      (let sum = times-sum low weight other in
      let a = times-more low first weight one in
      let b = times-more low second other two in
      omega (arith, ints, sum, a, b))
]

mean-high : (high first second : ℤ) (weight other : ℕ) → first ≤ℤ high → second ≤ℤ high → (mean first weight second other).top ≤ℤ (high *ℤ pos (mean first weight second other).bottom)
mean-high high first second weight other one two = elim (cases_eq (weight + other) 0) [
  | inl h ↦ rw (eq-eqb (weight + other) 0 h) (omega (arith, ints, one))
  | inr h ↦
      rw (ne_eqb (weight + other) 0 h)
      (let sum = times-sum high weight other in
      let a = times-more first high weight one in
      let b = times-more second high other two in
      omega (arith, ints, sum, a, b))
]

pub mean-above : (first second : ℤ) (weight other : ℕ) → 0 < (mean first weight second other).bottom
mean-above first second weight other = elim (cases_eq (weight + other) 0) [
  | inl h ↦ rw (eq-eqb (weight + other) 0 h) (omega arith)
  | inr h ↦ rw (ne_eqb (weight + other) 0 h) (omega (arith, h))
]

-- A number between multiples of the unit is rounded to one between them.
low-kept : (unit bottom : ℕ) (top low q : ℤ) → 0 < unit → 0 < bottom → IsQuotient ((pos 2 *ℤ top) +ℤ pos (unit * bottom)) (pos (2 * (unit * bottom))) q
    → ((pos unit *ℤ low) *ℤ pos bottom) ≤ℤ top → low ≤ℤ q
low-kept unit bottom top low q h g is within =
    by_lt_z q low
    (λ less.
    let same = scaled unit bottom low in
    let more = times-more (q +ℤ pos 1) low (2 * (unit * bottom)) (omega (arith, ints, less)) in
    absurd (omega (arith, ints, same, more, within, is.no_more)))
    (λ fine. fine)

high-kept : (unit bottom : ℕ) (top high q : ℤ) → 0 < unit → 0 < bottom → IsQuotient ((pos 2 *ℤ top) +ℤ pos (unit * bottom)) (pos (2 * (unit * bottom))) q
    → top ≤ℤ ((pos unit *ℤ high) *ℤ pos bottom) → q ≤ℤ high
high-kept unit bottom top high q h g is within =
    by_lt_z high q
    (λ more.
    let same = scaled unit bottom high in
    let next = next-times high (unit * bottom) in
    let above = above-zero unit bottom h g in
    let less = times-more (high +ℤ pos 1) q (2 * (unit * bottom)) (omega (arith, ints, more)) in
    absurd (omega (arith, ints, same, next, above, less, within, is.within)))
    (λ fine. fine)

by-unit : (unit : ℕ) (a b : ℤ) → a ≤ℤ b → (pos unit *ℤ a) ≤ℤ (pos unit *ℤ b)
by-unit unit a b h = let more = times-more a b unit h in let one = turned a unit in let two = turned b unit in omega (arith, ints, more, one, two) where
  turned : (a : ℤ) (n : ℕ) → pos n *ℤ a ≡ a *ℤ pos n
  turned (pos a) n = let e : n * a ≡ a * n = grind arith in omega (arith, ints, e)
  turned (negsuc a) n = let e : n * suc a ≡ suc a * n = grind arith in omega (arith, ints, e)

-- The mean of two values is rounded to a number between multiples of the unit that bound both.
pub rounded-between-bounds : (unit weight other : ℕ) (low high first second : ℤ) → 0 < unit
    → (pos unit *ℤ low) ≤ℤ first → (pos unit *ℤ low) ≤ℤ second → first ≤ℤ (pos unit *ℤ high) → second ≤ℤ (pos unit *ℤ high)
    → ((pos unit *ℤ low) ≤ℤ nearest unit (mean first weight second other)) × (nearest unit (mean first weight second other) ≤ℤ (pos unit *ℤ high))
rounded-between-bounds unit weight other low high first second some l1 l2 h1 h2 =
    let f = mean first weight second other in
    let above = mean-above first second weight other in
    let is = nearest-quotient unit f some above in (
      by-unit unit low _ (low-kept unit f.bottom f.top low _ some above is (mean-low (pos unit *ℤ low) first second weight other l1 l2)),
      by-unit unit _ high (high-kept unit f.bottom f.top high _ some above is (mean-high (pos unit *ℤ high) first second weight other h1 h2)),
    )

-- Two numbers that are the quotient are one.
one-quotient : (a m q : ℤ) (n : ℕ) → (m *ℤ pos n) ≤ℤ a → a <ℤ ((m +ℤ pos 1) *ℤ pos n) → (q *ℤ pos n) ≤ℤ a → a <ℤ ((q +ℤ pos 1) *ℤ pos n) → m ≡ q
one-quotient a m q n low high within no_more =
    by_lt_z m q
    (λ less. let more = times-more (m +ℤ pos 1) q n (omega (arith, ints, less)) in absurd (omega (arith, ints, more, high, within)))
    (λ least. by_lt_z q m
    (λ less. let more = times-more (q +ℤ pos 1) m n (omega (arith, ints, less)) in absurd (omega (arith, ints, more, low, no_more)))
    (λ most. omega (arith, ints, least, most)))

-- No other multiple of the unit is near.
pub near-only : (unit : ℕ) (f : Fraction) (n : ℤ) → 0 < unit → 0 < f.bottom → IsNear unit f (pos unit *ℤ n) → pos unit *ℤ n ≡ nearest unit f
near-only unit f n some above near =
    let q = int_div_euclid ((pos 2 *ℤ f.top) +ℤ pos (unit * f.bottom)) (pos (2 * (unit * f.bottom))) in
    let is = nearest-quotient unit f some above in
    let same = scaled unit f.bottom n in
    let next = next-times n (unit * f.bottom) in
    let equal : n ≡ q =
    one-quotient ((pos 2 *ℤ f.top) +ℤ pos (unit * f.bottom)) n q (2 * (unit * f.bottom)) (omega (arith, ints, same, near.not_above)) (omega (arith, ints, same, next, near.not_below)) is.within is.no_more in
    ap (λ z. pos unit *ℤ z) equal

one-times : (n : ℤ) → n ≡ pos 1 *ℤ n
one-times n = omega (arith, ints)

pub whole-only : (f : Fraction) (n : ℤ) → 0 < f.bottom → IsNear 1 f n → n ≡ nearest 1 f
whole-only f n above near = one-times n ∙ near-only 1 f n (omega arith) above (subst (IsNear 1 f) (one-times n) near)
