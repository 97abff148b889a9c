-- How far a rate carries.
use Rattle.std.proofs.Common.{◌≡◌, ℕ, zero, suc, ◌+◌, ◌*◌, ◌<◌, ◌≤◌, ℤ, pos, negsuc, ◌+ℤ◌, ◌*ℤ◌, List, Option, Some, None, refl, ap, ◌∙◌, arith, add-zero}
use Rattle.std.specs.Prelude.{All, IfSome, unsigned_abs}
use Rattle.std.specs.Option.{option_map_or}
use Rattle.std.proofs.lemmas.Int.{ints}
use Rattle.acas_base.specs.declared.craft.Leg.{Leg}
use Rattle.flight.proofs.Latest.{leg-has}
use Rattle.flight.specs.Flight.{carried, leg_in, rate_in}

-- What the rate of the leg that is flown is.
pub rate-some : (rate : Leg → ℤ) (legs : List Leg) (cycle : ℕ) (leg : Leg) → leg_in legs cycle ≡ Some leg → rate_in rate legs cycle ≡ rate leg
unfolding rate_in
rate-some rate legs cycle leg is = rw is refl

pub rate-none : (rate : Leg → ℤ) (legs : List Leg) (cycle : ℕ) → leg_in legs cycle ≡ None → rate_in rate legs cycle ≡ pos 0
unfolding rate_in
rate-none rate legs cycle is = rw is refl

times-more : (v : ℤ) (n : ℕ) → (v *ℤ pos n) +ℤ v ≡ v *ℤ pos (suc n)
times-more (pos w) n = omega (arith, ints)
times-more (negsuc w) n = omega (arith, ints)

plus-assoc : (a b c : ℤ) → (a +ℤ b) +ℤ c ≡ a +ℤ (b +ℤ c)
plus-assoc a b c = omega (arith, ints)

-- Over cycles of one rate.
pub carried-along : (rate : Leg → ℤ) (legs : List Leg) (a n : ℕ) (v : ℤ) → ((c : ℕ) → a < c → c ≤ a + n → rate_in rate legs c ≡ v)
    → carried rate legs (a + n) ≡ carried rate legs a +ℤ (v *ℤ pos n)
unfolding carried
carried-along rate legs a zero v same = let none : v *ℤ pos 0 ≡ pos 0 = omega (arith, ints) in rw (add-zero, none) (omega (arith, ints))
carried-along rate legs a (suc n) v same =
    let next : a + suc n ≡ suc (a + n) = omega arith in
    let earlier = carried-along rate legs a n v (λ c h g. same c h (omega arith)) in
    let here : rate_in rate legs (suc (a + n)) ≡ v = same (suc (a + n)) (omega arith) (omega arith) in
    rw (next, here, earlier) (plus-assoc (carried rate legs a) (v *ℤ pos n) v ∙ ap (λ s. carried rate legs a +ℤ s) (times-more v n))

rate-bound : (rate : Leg → ℤ) (size : ℕ) (leg : Option Leg) → IfSome leg (λ l. unsigned_abs (rate l) ≤ size) → unsigned_abs (option_map_or rate leg (pos 0)) ≤ size
rate-bound rate size None h = omega arith
rate-bound rate size (Some leg) h = h

abs-sum : (a b : ℤ) → unsigned_abs (a +ℤ b) ≤ unsigned_abs a + unsigned_abs b
abs-sum a b = omega (arith, ints)

abs-zero : unsigned_abs (pos 0) ≤ 0
abs-zero = omega arith

-- No farther than the greatest rate carries.
pub carried-bound : (rate : Leg → ℤ) (legs : List Leg) (size n : ℕ) → All (λ leg. unsigned_abs (rate leg) ≤ size) legs → unsigned_abs (carried rate legs n) ≤ n * size
unfolding carried rate_in
carried-bound rate legs size zero each = omega arith
carried-bound rate legs size (suc n) each =
    let earlier = carried-bound rate legs size n each in
    let here = rate-bound rate size (leg_in legs (suc n)) (leg-has (λ leg. unsigned_abs (rate leg) ≤ size) legs (suc n) each) in
    let both = abs-sum (carried rate legs n) (option_map_or rate (leg_in legs (suc n)) (pos 0)) in
    omega (arith, earlier, here, both)
