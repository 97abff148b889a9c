-- Where an aircraft is in cycles beyond the run, and before it.
use Rattle.std.proofs.Common.{◌≡◌, ℕ, ◌+◌, ◌-◌, ◌<◌, ◌≤◌, true, false, ℤ, pos, ◌+ℤ◌, ◌-ℤ◌, ◌*ℤ◌, List, length, get_or, Option, Some, None, Bool, refl, sym, ap, ◌∙◌, arith, rules}
use Rattle.std.specs.Prelude.{All, ◌==◌, filter, fold, int_le, nat_le, unsigned_abs, unwrap_or, ◌<ℤ◌, ◌≤ℤ◌}
use Rattle.std.specs.Bool.{Decides}
use Rattle.std.specs.Int.{int_div_euclid}
use Rattle.std.specs.Option.{option_map_or}
use Rattle.std.proofs.lemmas.Bool.{le-leb}
use Rattle.std.proofs.lemmas.Int.{ints}
use Rattle.std.proofs.lemmas.List.Elements.{All-filter}
use Rattle.acas_base.specs.Encounter.{IsEncounter, Parts}
use Rattle.acas_base.specs.declared.craft.Leg.{Leg}
use Rattle.acas_num.proofs.Quotients.{quotient}
use Rattle.flight.proofs.Carrying.{carried-along}
use Rattle.flight.specs.Flight.{carried, later, leg_in, legs_of, place_in, position, rate_in, start_of}
use Rattle.leg_rows.proofs.OneFlight.{any-craft, position-at, same-place}
use Rattle.leg_rows.proofs.Together.{filter-whole}
use Rattle.variants.specs.Flights.{carried_on, drawn_place, leg_from, resting}

-- From the last cycle in which a leg can begin on, one leg is flown.
same-leg : (legs : List Leg) (c : ℕ) → All (λ (leg : Leg). leg.from ≤ 600) legs → 600 ≤ c → leg_in legs c ≡ leg_in legs 600
unfolding leg_in
same-leg legs c all late = ap (fold later None) (whole c late ∙ sym (whole 600 (omega arith))) where
  whole : (n : ℕ) → 600 ≤ n → filter (λ (leg : Leg). nat_le leg.from n) legs ≡ legs
  whole n h = filter-whole (λ (leg : Leg). nat_le leg.from n) legs (λ k d g. let early = all k d g in le-leb (get_or legs k d).from n (omega (arith, early)))

or-rest : (rate : Leg → ℤ) (leg : Option Leg) → rate resting ≡ pos 0 → option_map_or rate leg (pos 0) ≡ rate (unwrap_or leg resting)
or-rest rate None none = sym none
or-rest rate (Some leg) none = refl

rate-late : (rate : Leg → ℤ) (legs : List Leg) (c : ℕ) → rate resting ≡ pos 0 → All (λ (leg : Leg). leg.from ≤ 600) legs → 600 ≤ c → rate_in rate legs c ≡ rate (unwrap_or (leg_in legs 600) resting)
unfolding rate_in
rate-late rate legs c none all late = ap (λ o. option_map_or rate o (pos 0)) (same-leg legs c all late) ∙ or-rest rate (leg_in legs 600) none

-- One coordinate.
onward-one : (start : ℤ) (rate : Leg → ℤ) (legs : List Leg) (cycle : ℕ) → rate resting ≡ pos 0 → All (λ (leg : Leg). leg.from ≤ 600) legs → 600 ≤ cycle
    → (start +ℤ carried rate legs 599) +ℤ (rate (unwrap_or (leg_in legs 600) resting) *ℤ (pos cycle -ℤ pos 600)) ≡ start +ℤ carried rate legs (cycle - 1)
onward-one start rate legs cycle none all late =
    let v = rate (unwrap_or (leg_in legs 600) resting) in
    let n = cycle - 600 in
    let sums : 599 + n ≡ cycle - 1 = omega arith in
    let span : pos cycle -ℤ pos 600 ≡ pos n = omega (arith, ints) in
    let step : carried rate legs (cycle - 1) ≡ carried rate legs 599 +ℤ (v *ℤ pos n) =
    ap (carried rate legs) (sym sums) ∙ carried-along rate legs 599 n v (λ c h g. rate-late rate legs c none all (omega arith)) in
    ap (λ s. (start +ℤ carried rate legs 599) +ℤ (v *ℤ s)) span ∙ assoc start (carried rate legs 599) (v *ℤ pos n) ∙ ap (λ s. start +ℤ s) (sym step)
  where
    assoc : (a b c : ℤ) → (a +ℤ b) +ℤ c ≡ a +ℤ (b +ℤ c)
    assoc a b c = omega (arith, ints)

legs-early : (e : Parts) (craft : ℕ) → IsEncounter e → All (λ (leg : Leg). leg.from ≤ 600) (legs_of e craft)
legs-early e craft is = All-filter (λ (leg : Leg). leg.craft == craft) (λ (leg : Leg). leg.from ≤ 600) e.legs (λ k d h. (is.records.legs.0 k d h).from.1)

onward : (e : Parts) (craft cycle : ℕ) → IsEncounter e → craft < length e.crafts → 600 ≤ cycle
    → carried_on (position e craft 600) (leg_from e craft 600) (pos cycle -ℤ pos 600) ≡ position e craft cycle
onward e craft cycle is within late =
    let start = start_of (get_or e.crafts craft any-craft) in
    let legs = legs_of e craft in
    let early = legs-early e craft is in
    ap (λ p. carried_on p (leg_from e craft 600) (pos cycle -ℤ pos 600)) (sym (position-at e craft 600 within))
    ∙ same-place (carried_on (place_in start legs 600) (leg_from e craft 600) (pos cycle -ℤ pos 600)) (place_in start legs cycle)
    (onward-one start.x (λ (leg : Leg). leg.vx) legs cycle refl early late)
    (onward-one start.y (λ (leg : Leg). leg.vy) legs cycle refl early late)
    (onward-one start.z (λ (leg : Leg). leg.vz) legs cycle refl early late)
    ∙ position-at e craft cycle within

-- The three cases of a place that is drawn.
pub drawn-back : (e : Parts) (craft : ℕ) (cycle : ℤ) → int_le (pos 1) cycle ≡ false → carried_on (position e craft 1) (leg_from e craft 1) (cycle -ℤ pos 1) ≡ drawn_place e craft cycle
unfolding drawn_place
drawn-back e craft cycle h = rw h refl

pub drawn-in : (e : Parts) (craft : ℕ) (cycle : ℤ) (n : ℕ) → int_le (pos 1) cycle ≡ true → n ≡ unsigned_abs cycle → position e craft n ≡ drawn_place e craft cycle
unfolding drawn_place
drawn-in e craft cycle n h is = rw (h, is) refl

pub drawn-on : (e : Parts) (craft : ℕ) (cycle : ℤ) → IsEncounter e → craft < length e.crafts → pos 600 ≤ℤ cycle → int_le (pos 1) cycle ≡ true
    → carried_on (position e craft 600) (leg_from e craft 600) (cycle -ℤ pos 600) ≡ drawn_place e craft cycle
drawn-on e craft cycle is within late h =
    let n = unsigned_abs cycle in
    let same : cycle ≡ pos n = omega (arith, ints, late) in
    ap (λ c. carried_on (position e craft 600) (leg_from e craft 600) (c -ℤ pos 600)) same
    ∙ onward e craft n is within (omega (arith, ints, late))
    ∙ drawn-in e craft cycle n h refl

-- A whole foot stays one.
pub whole-foot : (q : ℤ) → int_div_euclid (pos 60 *ℤ q) (pos 60) ≡ q
whole-foot q =
    let is = quotient (pos 60 *ℤ q) (pos 60) (omega (arith, ints)) in
    sixtieth q (int_div_euclid (pos 60 *ℤ q) (pos 60)) is.within is.no_more
  where
    sixtieth : (q r : ℤ) → (r *ℤ pos 60) ≤ℤ (pos 60 *ℤ q) → (pos 60 *ℤ q) <ℤ ((r +ℤ pos 1) *ℤ pos 60) → r ≡ q
    sixtieth q r low high = omega (arith, ints, low, high)

-- The tests of a cycle.
order-tested : (a b : ℤ) → Decides (int_le a b) (a ≤ℤ b)
order-tested a b = search rules

pub before-run : (z : ℤ) → z <ℤ pos 1 → int_le (pos 1) z ≡ false
before-run z h = by (int_le (pos 1) z) refl where
  by : (b : Bool) → int_le (pos 1) z ≡ b → int_le (pos 1) z ≡ false
  by false is = is
  by true is = let low = (order-tested (pos 1) z).0 is in absurd (omega (arith, ints, h, low))

pub begun-run : (z : ℤ) → pos 1 ≤ℤ z → int_le (pos 1) z ≡ true
begun-run z h = (order-tested (pos 1) z).1 h
