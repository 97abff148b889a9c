-- The place one cycle later.
use Rattle.std.proofs.Common.{◌≡◌, ◌∙◌, ℕ, ◌+◌, ◌-◌, ◌<◌, ◌≤◌, ℤ, pos, negsuc, ◌+ℤ◌, ◌*ℤ◌, true, false, List, length, get_or, ap, sym, arith, inl, inr, leb-true}
use Rattle.std.specs.Prelude.{nat_le}
use Rattle.std.specs.List.Sorted.{IsPartitionedBy, IsPartitionPoint}
use Rattle.std.proofs.lemmas.Bool.{cases_lt}
use Rattle.std.proofs.lemmas.Bool.Decides.{nat_tests}
use Rattle.std.proofs.lemmas.Int.{ints}
use Rattle.acas_base.specs.declared.craft.Leg.{Leg}
use Rattle.flight.proofs.Along.{along, same-place, still}
use Rattle.flight.proofs.Latest.{begins-at, begins-past}
use Rattle.flight.specs.Bounds.{IsCourse, begins, flown}
use Rattle.flight.specs.Flight.{place_in}
use Rattle.flight.specs.declared.place.Place.{Place}

abbrev pub no-leg : Leg
no-leg = record { craft = 0; from = 0; vx = pos 0; vy = pos 0; vz = pos 0 }

-- So many legs begin in a cycle or before it.
abbrev pub HaveBegun : List Leg → ℕ → ℕ → Type 0
HaveBegun legs cycle n = IsPartitionPoint (λ (leg : Leg). nat_le leg.from cycle ≡ true) (λ (leg : Leg). nat_le leg.from cycle ≡ false) legs n

one-more : (v : ℤ) (m : ℕ) → (v *ℤ pos m) +ℤ (v *ℤ pos 1) ≡ v *ℤ pos (m + 1)
one-more (pos v) m = omega (arith, ints)
one-more (negsuc v) m = omega (arith, ints)

more : (x v : ℤ) (m : ℕ) → (x +ℤ (v *ℤ pos m)) +ℤ (v *ℤ pos 1) ≡ x +ℤ (v *ℤ pos (m + 1))
more x v m = omega (arith, ints, one-more v m)

flown-more : (place : Place) (leg : Leg) (m : ℕ) → flown (flown place leg m) leg 1 ≡ flown place leg (m + 1)
flown-more place leg m = same-place (flown (flown place leg m) leg 1) (flown place leg (m + 1)) (more place.x leg.vx m) (more place.y leg.vy m) (more place.z leg.vz m)

late : (a b : ℕ) → nat_le a b ≡ false → b < a
late a b is = grind (arith, nat_tests)

-- The leg behind those that have begun begins after the next cycle has come.
next-begins : (legs : List Leg) (cycle n : ℕ) (d : Leg) → HaveBegun legs cycle n → begins legs n (cycle + 1) ≡ cycle + 1
next-begins legs cycle n d parted = elim (cases_lt n (length legs)) [
  | inl there ↦
      let at = begins-at legs n (cycle + 1) d there in
      let after = late (get_or legs n d).from cycle (parted.1 n d (omega arith) there) in
      omega (arith, at, after)
  | inr past ↦ begins-past legs n (cycle + 1) past
]

-- Where a leg has begun, the last of them is flown.
pub step-on : (start : Place) (legs : List Leg) (cycle n : ℕ) (d : Leg) → IsCourse legs → HaveBegun legs cycle n → 0 < n → n ≤ length legs → 1 ≤ cycle
    → flown (place_in start legs cycle) (get_or legs (n - 1) d) 1 ≡ place_in start legs (cycle + 1)
step-on start legs cycle n d course parted some few first =
    let index = n - 1 in
    let leg = get_or legs index d in
    let within : index < length legs = omega arith in
    let next : index + 1 ≡ n = omega arith in
    let at = begins-at legs index (cycle + 1) d within in
    let begun : leg.from ≤ cycle = leb-true _ _ (parted.0 index d (omega arith) (omega arith)) in
    let end : begins legs (index + 1) (cycle + 1) ≡ cycle + 1 = ap (λ k. begins legs k (cycle + 1)) next ∙ next-begins legs cycle n d parted in
    let from = begins legs index (cycle + 1) in
    let base = place_in start legs from in
    let here = along start legs index (cycle + 1) cycle d course within (omega arith) (omega (arith, at, begun)) (omega (arith, end)) in
    let there = along start legs index (cycle + 1) (cycle + 1) d course within (omega arith) (omega (arith, at, begun)) (omega (arith, end)) in
    let long : (cycle - from) + 1 ≡ cycle + 1 - from = omega (arith, at, begun) in
    ap (λ p. flown p leg 1) here ∙ flown-more base leg (cycle - from) ∙ ap (flown base leg) long ∙ sym there

-- Where none has, the aircraft doesn't move.
pub step-none : (start : Place) (legs : List Leg) (cycle : ℕ) → IsCourse legs → HaveBegun legs cycle 0 → 1 ≤ cycle → place_in start legs cycle ≡ place_in start legs (cycle + 1)
step-none start legs cycle course parted first =
    let end = next-begins legs cycle 0 no-leg parted in
    still start legs (cycle + 1) cycle course first (omega (arith, end)) ∙ sym (still start legs (cycle + 1) (cycle + 1) course (omega arith) (omega (arith, end)))

-- The legs that have begun stand in front.
pub begun-parted : (legs : List Leg) (cycle : ℕ) → IsCourse legs → IsPartitionedBy (λ (leg : Leg). nat_le leg.from cycle) legs
begun-parted legs cycle course i j d order within begun = elim (cases_lt i j) [
  | inl less ↦ (let rises = course.rising i j d less within in sooner (get_or legs i d).from (get_or legs j d).from cycle (omega arith) begun)
  | inr other ↦ (let same : i ≡ j = omega arith in rw same begun)
]
  where
    sooner : (a b c : ℕ) → a ≤ b → nat_le b c ≡ true → nat_le a c ≡ true
    sooner a b c less is = grind (arith, nat_tests)
