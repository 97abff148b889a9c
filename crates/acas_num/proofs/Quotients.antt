-- The quotient of two whole numbers is rounded down, whatever the sign of the first.
use Rattle.std.proofs.Common.{◌≡◌, ℕ, zero, suc, ◌+◌, ◌*◌, ◌/◌, ◌%◌, ◌<◌, ◌≤◌, ℤ, pos, negsuc, neg_ℤ, ◌+ℤ◌, ◌*ℤ◌, ◌≤ℤ◌, ◌<ℤ◌, arith}
use Rattle.std.specs.Int.{int_div_euclid}
use Rattle.std.proofs.lemmas.Int.{ints}
use Rattle.std.proofs.lemmas.Nat.{div-add-mod'}
use Rattle.std.proofs.Math.Nat.{mod-lt}
use Rattle.acas_num.specs.Division.{IsQuotient}

low : (a b : ℕ) → a / b * b ≤ a
low a b = let e = div-add-mod' a b in omega arith

high : (a b : ℕ) → 0 < b → a < (a / b + 1) * b
high a b h = let e = div-add-mod' a b in let l : a % b < b = mod-lt a h in omega arith

not-above : (a m : ℕ) → a < m → neg_ℤ (pos m) ≤ℤ negsuc a
not-above a zero h = omega arith
not-above a (suc m) h = omega (arith, ints)

below : (a m : ℕ) → m ≤ a → negsuc a <ℤ neg_ℤ (pos m)
below a zero h = omega (arith, ints)
below a (suc m) h = omega (arith, ints)

next : (a k b : ℕ) → k * b ≤ a → negsuc a <ℤ ((negsuc k +ℤ pos 1) *ℤ pos b)
next a zero b h = omega (arith, ints)
next a (suc k) b h = let e : negsuc (suc k) +ℤ pos 1 ≡ negsuc k = omega (arith, ints) in rw e (below a (suc k * b) h)

pub quotient : (a b : ℤ) → pos 0 <ℤ b → IsQuotient a b (int_div_euclid a b)
quotient (pos a) (pos b) h =
    let above : 0 < b = omega (arith, ints) in
    let l = low a b in
    let g = high a b above in
    record { within = omega (arith, ints); no_more = omega (arith, ints) }
quotient (negsuc a) (pos b) h =
    let above : 0 < b = omega (arith, ints) in
    record { within = not-above a (suc (a / b) * b) (let g = high a b above in omega arith); no_more = next a (a / b) b (low a b) }
quotient a (negsuc b) h = absurd (omega (arith, ints))
