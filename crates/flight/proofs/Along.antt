-- The places of a course.
use Rattle.std.proofs.Common.{◌≡◌, ℕ, ◌+◌, ◌-◌, ◌*◌, ◌<◌, ◌≤◌, ℤ, pos, ◌+ℤ◌, ◌*ℤ◌, List, length, get_or, refl, ap, sym, ◌∙◌, arith}
use Rattle.std.specs.Prelude.{All, unsigned_abs}
use Rattle.std.proofs.lemmas.Int.{ints}
use Rattle.acas_base.specs.Ranges.{IsWithin}
use Rattle.acas_base.specs.declared.craft.Leg.{Leg}
use Rattle.flight.proofs.Carrying.{carried-along, carried-bound, rate-none, rate-some}
use Rattle.flight.proofs.Latest.{begins-some, leg-at, leg-none}
use Rattle.flight.specs.Bounds.{IsCourse, IsReachable, IsStart, begins, flown}
use Rattle.flight.specs.Flight.{carried, place_in}
use Rattle.flight.specs.declared.place.Place.{Place}

-- Where one coordinate is, some way along a leg.
along-one : (start : ℤ) (rate : Leg → ℤ) (legs : List Leg) (index cycle k : ℕ) (d : Leg) → IsCourse legs → index < length legs → 1 ≤ cycle
    → begins legs index cycle ≤ k → k ≤ begins legs (index + 1) cycle
    → start +ℤ carried rate legs (k - 1) ≡ (start +ℤ carried rate legs (begins legs index cycle - 1)) +ℤ (rate (get_or legs index d) *ℤ pos (k - begins legs index cycle))
along-one start rate legs index cycle k d course within some low high =
    let b = begins legs index cycle in
    let first : 1 ≤ b = begins-some legs index cycle course some in
    let v = rate (get_or legs index d) in
    let n = k - b in
    let sums : (b - 1) + n ≡ k - 1 = omega arith in
    let step = carried-along rate legs (b - 1) n v (λ c h g. rate-some rate legs c (get_or legs index d) (leg-at legs index cycle c d course within (omega arith) (omega arith))) in
    let moved : carried rate legs (k - 1) ≡ carried rate legs (b - 1) +ℤ (v *ℤ pos n) = ap (carried rate legs) (sym sums) ∙ step in
    ap (λ s. start +ℤ s) moved ∙ assoc start (carried rate legs (b - 1)) (v *ℤ pos n)
  where
    assoc : (a b c : ℤ) → a +ℤ (b +ℤ c) ≡ (a +ℤ b) +ℤ c
    assoc a b c = omega (arith, ints)

pub same-place : (p q : Place) → p.x ≡ q.x → p.y ≡ q.y → p.z ≡ q.z → p ≡ q
same-place p q x y z = grind arith

-- Some way along a leg.
pub along : (start : Place) (legs : List Leg) (index cycle k : ℕ) (d : Leg) → IsCourse legs → index < length legs → 1 ≤ cycle
    → begins legs index cycle ≤ k → k ≤ begins legs (index + 1) cycle
    → place_in start legs k ≡ flown (place_in start legs (begins legs index cycle)) (get_or legs index d) (k - begins legs index cycle)
along start legs index cycle k d course within some low high =
    same-place (place_in start legs k) (flown (place_in start legs (begins legs index cycle)) (get_or legs index d) (k - begins legs index cycle))
    (along-one start.x (λ (leg : Leg). leg.vx) legs index cycle k d course within some low high)
    (along-one start.y (λ (leg : Leg). leg.vy) legs index cycle k d course within some low high)
    (along-one start.z (λ (leg : Leg). leg.vz) legs index cycle k d course within some low high)

start-none : (rate : Leg → ℤ) (legs : List Leg) → carried rate legs 0 ≡ pos 0
unfolding carried
start-none rate legs = refl

still-one : (start : ℤ) (rate : Leg → ℤ) (legs : List Leg) (cycle k : ℕ) → IsCourse legs → 1 ≤ k → k ≤ begins legs 0 cycle → start +ℤ carried rate legs (k - 1) ≡ start
still-one start rate legs cycle k course some early =
    let step = carried-along rate legs 0 (k - 1) (pos 0) (λ c h g. rate-none rate legs c (leg-none legs cycle c course (omega arith))) in
    let none : carried rate legs 0 ≡ pos 0 = start-none rate legs in
    let zeros : carried rate legs (k - 1) ≡ pos 0 = ap (carried rate legs) (arithmetic (k - 1)) ∙ step ∙ rw none (omega (arith, ints)) in
    rw zeros (omega (arith, ints))
  where
    arithmetic : (n : ℕ) → n ≡ 0 + n
    arithmetic n = omega arith

-- At the start until the first leg begins.
pub still : (start : Place) (legs : List Leg) (cycle k : ℕ) → IsCourse legs → 1 ≤ k → k ≤ begins legs 0 cycle → place_in start legs k ≡ start
still start legs cycle k course some early =
    same-place (place_in start legs k) start
    (still-one start.x (λ (leg : Leg). leg.vx) legs cycle k course some early)
    (still-one start.y (λ (leg : Leg). leg.vy) legs cycle k course some early)
    (still-one start.z (λ (leg : Leg). leg.vz) legs cycle k course some early)

reach-one : (start : ℤ) (rate : Leg → ℤ) (legs : List Leg) (near size k : ℕ) → unsigned_abs start ≤ near → All (λ leg. unsigned_abs (rate leg) ≤ size) legs → k ≤ 600
    → unsigned_abs (start +ℤ carried rate legs (k - 1)) ≤ near + 599 * size
reach-one start rate legs near size k low each late =
    let far = carried-bound rate legs size (k - 1) each in
    let both = abs-sum start (carried rate legs (k - 1)) in
    let most : (k - 1) * size ≤ 599 * size = times (k - 1) 599 size (omega arith) in
    omega (arith, far, both, most)
  where
    abs-sum : (a b : ℤ) → unsigned_abs (a +ℤ b) ≤ unsigned_abs a + unsigned_abs b
    abs-sum a b = omega (arith, ints)

    times : (a b c : ℕ) → a ≤ b → a * c ≤ b * c
    times a b c h = grind arith

within-abs : (size : ℕ) (a : ℤ) → IsWithin size a → unsigned_abs a ≤ size
within-abs size a h = omega (arith, ints, h.0, h.1)

-- How far a course leads.
pub reach : (start : Place) (legs : List Leg) (k : ℕ) → IsStart start → IsCourse legs → k ≤ 600 → IsReachable (place_in start legs k)
reach start legs k near course late = record {
  x = reach-one start.x (λ (leg : Leg). leg.vx) legs 1000000 2000 k near.x (λ i d h. within-abs 2000 (get_or legs i d).vx (course.rates i d h).vx) late;
  y = reach-one start.y (λ (leg : Leg). leg.vy) legs 1000000 2000 k near.y (λ i d h. within-abs 2000 (get_or legs i d).vy (course.rates i d h).vy) late;
  z = reach-one start.z (λ (leg : Leg). leg.vz) legs 3600000 10000 k near.z (λ i d h. within-abs 10000 (get_or legs i d).vz (course.rates i d h).vz) late;
}
