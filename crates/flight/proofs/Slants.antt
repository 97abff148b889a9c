-- The slant range as a root.
use Rattle.std.proofs.Common.{◌≡◌, ℕ, ◌*◌, ◌/◌, ◌%◌, ◌<◌, ◌≤◌, ◌^◌, ℤ, ap, refl, inl, inr, arith, mul-le-mul}
use Rattle.std.specs.Prelude.{◌-ℤ◌, unsigned_abs}
use Rattle.std.proofs.lemmas.Bool.{cases_lt}
use Rattle.std.proofs.lemmas.Int.{ints}
use Rattle.std.proofs.lemmas.Nat.{div-add-mod'}
use Rattle.std.proofs.Math.Nat.{mod-lt}
use Rattle.acas_num.proofs.Roots.{only-root, root-is}
use Rattle.acas_num.specs.Root.{root}
use Rattle.flight.specs.Bounds.{IsReachable}
use Rattle.flight.specs.Measurement.{IsSlantRange, distance, slant_range, square}
use Rattle.flight.specs.declared.place.Place.{Place}

-- A square is no more than the whole part of a quotient exactly where its multiple is no more than the dividend.
up : (n s : ℕ) → s ≤ n / 3600 → 3600 * s ≤ n
up n s h = let e = div-add-mod' n 3600 in omega arith

down : (n s : ℕ) → 3600 * s ≤ n → s ≤ n / 3600
down n s h = let e = div-add-mod' n 3600 in let l : n % 3600 < 3600 = mod-lt n (omega arith) in omega arith

pub slant-is : (p q : Place) → IsSlantRange p q (slant_range p q)
unfolding slant_range
slant-is p q =
    let n = distance p q in
    let r = root (n / 3600) in
    let is = root-is (n / 3600) in
    record { within = up n (r * r) is.square; greatest = λ s h. is.greatest s (down n (s * s) h) }

pub only-slant : (p q : Place) (r : ℕ) → IsSlantRange p q r → r ≡ slant_range p q
unfolding slant_range
only-slant p q r is =
    let n = distance p q in
    only-root (n / 3600) r (record { square = down n (r * r) is.within; greatest = λ s h. is.greatest s (up n (s * s) h) })

-- Either place can be the first one.
square-swap : (a b : ℤ) → square (a -ℤ b) ≡ square (b -ℤ a)
square-swap a b = let same : unsigned_abs (a -ℤ b) ≡ unsigned_abs (b -ℤ a) = omega (arith, ints) in ap (λ n. n * n) same

pub slant-swap : (p q : Place) → slant_range p q ≡ slant_range q p
unfolding slant_range
slant-swap p q = rw (square-swap p.x q.x, square-swap p.y q.y, square-swap p.z q.z) refl

-- A place has no distance to itself.
square-none : (a : ℤ) → square (a -ℤ a) ≡ 0
square-none a = let none : unsigned_abs (a -ℤ a) ≡ 0 = omega (arith, ints) in ap (λ n. n * n) none

pub slant-none : (p : Place) → 0 ≡ slant_range p p
unfolding slant_range root
slant-none p = rw (square-none p.x, square-none p.y, square-none p.z) refl

-- No range between places that can be reached needs more than 32 bits.
square-bound : (a b : ℤ) → unsigned_abs a ≤ 2 ^ 24 → unsigned_abs b ≤ 2 ^ 24 → square (a -ℤ b) ≤ 2 ^ 25 * 2 ^ 25
square-bound a b g h = let far : unsigned_abs (a -ℤ b) ≤ 2 ^ 25 = omega (arith, ints) in mul-le-mul far far

pub slant-fits : (p q : Place) → IsReachable p → IsReachable q → slant_range p q < 2 ^ 32
slant-fits p q g h =
    let x = square-bound p.x q.x (omega (arith, g.x)) (omega (arith, h.x)) in
    let y = square-bound p.y q.y (omega (arith, g.y)) (omega (arith, h.y)) in
    let z = square-bound p.z q.z (omega (arith, g.z)) (omega (arith, h.z)) in
    let r = slant_range p q in
    let within = (slant-is p q).within in
    elim (cases_lt r (2 ^ 32)) [
      | inl l ↦ l
      | inr long ↦ let square : 2 ^ 32 * 2 ^ 32 ≤ r * r = mul-le-mul long long in absurd (omega (arith, square, within, x, y, z))
    ]
