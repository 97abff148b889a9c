-- The axis of altitudes holds them all.
use Rattle.std.proofs.Common.{ℕ, zero, suc, ◌<◌, ◌≤◌, ℤ, pos, ◌+ℤ◌, ◌≤ℤ◌, ◌<ℤ◌, List, length, sym, subst, arith, inl, inr, ◌-ℤ◌, unsigned_abs}
use Rattle.std.proofs.lemmas.Bool.{cases_Bool, cases_eq, cond-false, cond-true, le-leb}
use Rattle.std.proofs.lemmas.Int.{ints, clamps}
use Rattle.acas_base.specs.Encounter.{Parts}
use Rattle.acas_base.specs.declared.entry.Entry.{Entry}
use Rattle.acas_num.proofs.Quotients.{quotient}
use Rattle.picture.specs.Laws.{AreCourses}
use Rattle.plot_axes.proofs.Shares.{kept}
use Rattle.picture.specs.Heights.{HoldsModelled, HoldsPlanned, IsOn, all_heights, altitude_y, axis_of, drawn_heights, has_modelled, height_in, height_of, modelled_in, over_flight, over_flights, steps_of, with_height}
use Rattle.picture.specs.declared.span.Span.{Span}

pub record IsBetween (span : Span) (height : ℤ) : Type 0 where
  pub low : span.low ≤ℤ height
  pub high : height ≤ℤ span.high

keeps : (span : Span) (one height : ℤ) → IsBetween span height → IsBetween (with_height span one) height
keeps span one height b = let low = b.low in let high = b.high in record { low = omega (arith, ints, clamps); high = omega (arith, ints, clamps) }

newest : (span : Span) (height : ℤ) → IsBetween (with_height span height) height
newest span height = record { low = omega (arith, ints, clamps); high = omega (arith, ints, clamps) }

cycles-keep : (flight : ℕ → ℤ) (span : Span) (n : ℕ) (height : ℤ) → IsBetween span height → IsBetween (over_flight flight span n) height
cycles-keep flight span zero height b = b
cycles-keep flight span (suc n) height b = keeps (over_flight flight span n) (flight (suc n)) height (cycles-keep flight span n height b)

cycles-hold : (flight : ℕ → ℤ) (span : Span) (n cycle : ℕ) → 1 ≤ cycle → cycle ≤ n → IsBetween (over_flight flight span n) (flight cycle)
cycles-hold flight span zero cycle first last = absurd (omega arith)
cycles-hold flight span (suc n) cycle first last = elim (cases_eq cycle (suc n)) [
  | inl here ↦ subst (λ (k : ℕ). IsBetween (over_flight flight span (suc n)) (flight k)) (sym here) (newest (over_flight flight span n) (flight (suc n)))
  | inr apart ↦ keeps (over_flight flight span n) (flight (suc n)) (flight cycle) (cycles-hold flight span n cycle first (omega arith))
]

flights-keep : (flights : ℕ → ℕ → ℤ) (cycles : ℕ) (span : Span) (n : ℕ) (height : ℤ) → IsBetween span height → IsBetween (over_flights flights cycles span n) height
flights-keep flights cycles span zero height b = b
flights-keep flights cycles span (suc n) height b = cycles-keep (flights n) (over_flights flights cycles span n) cycles height (flights-keep flights cycles span n height b)

flights-hold : (flights : ℕ → ℕ → ℤ) (cycles : ℕ) (span : Span) (n own cycle : ℕ) → own < n → 1 ≤ cycle → cycle ≤ cycles → IsBetween (over_flights flights cycles span n) (flights own cycle)
flights-hold flights cycles span zero own cycle within first last = absurd (omega arith)
flights-hold flights cycles span (suc n) own cycle within first last = elim (cases_eq own n) [
  | inl here ↦ subst (λ (k : ℕ). IsBetween (over_flights flights cycles span (suc n)) (flights k cycle)) (sym here) (cycles-hold (flights n) (over_flights flights cycles span n) cycles cycle first last)
  | inr apart ↦ cycles-keep (flights n) (over_flights flights cycles span n) cycles (flights own cycle) (flights-hold flights cycles span n own cycle (omega arith) first last)
]

planned-between : (e : Parts) (own cycle : ℕ) → own < length e.crafts → 1 ≤ cycle → cycle ≤ e.cycles → IsBetween (all_heights e) (height_in e own cycle)
unfolding all_heights
planned-between e own cycle within first last = flights-hold (height_in e) e.cycles (record { low = height_in e 0 1; high = height_in e 0 1 }) (length e.crafts) own cycle within first last

-- What is drawn of planned altitudes, and of modelled ones.
drawn-planned : (e : Parts) (J : List Entry) (height : ℤ) → IsBetween (all_heights e) height → IsBetween (drawn_heights e J) height
unfolding drawn_heights
drawn-planned e J height b =
    let all = over_flights (modelled_in e J) e.cycles (all_heights e) (length e.crafts) in
    elim (cases_Bool (has_modelled e)) [
      | inl met ↦ subst (λ (s : Span). IsBetween s height) (sym (cond-true (has_modelled e) all (all_heights e) met)) (flights-keep (modelled_in e J) e.cycles (all_heights e) (length e.crafts) height b)
      | inr unmet ↦ subst (λ (s : Span). IsBetween s height) (sym (cond-false (has_modelled e) all (all_heights e) unmet)) b
    ]

drawn-modelled : (e : Parts) (J : List Entry) (own cycle : ℕ) → length e.crafts ≤ 8 → own < length e.crafts → 1 ≤ cycle → cycle ≤ e.cycles → IsBetween (drawn_heights e J) (modelled_in e J own cycle)
unfolding drawn_heights
drawn-modelled e J own cycle few within first last =
    let all = over_flights (modelled_in e J) e.cycles (all_heights e) (length e.crafts) in
    subst (λ (s : Span). IsBetween s (modelled_in e J own cycle)) (sym (cond-true (has_modelled e) all (all_heights e) (le-leb (length e.crafts) 8 few)))
    (flights-hold (modelled_in e J) e.cycles (all_heights e) (length e.crafts) own cycle within first last)

pub record IsFloor (height : ℤ) : Type 0 where
  pub low : height_of (steps_of height) ≤ℤ height
  pub high : height <ℤ height_of (steps_of height +ℤ pos 1)

floored : (height : ℤ) → IsFloor height
unfolding steps_of
floored height = let q = quotient height (pos 30000) (omega (arith, ints)) in record { low = q.within; high = q.no_more }

is-on : (e : Parts) (J : List Entry) (height : ℤ) → IsBetween (drawn_heights e J) height → IsOn (axis_of e J) height
unfolding axis_of
is-on e J height b =
    let span = drawn_heights e J in
    let one = b.low in
    let two = b.high in
    let low = (floored (span.low -ℤ pos 1)).low in
    let high = (floored span.high).high in
    record { low = omega (arith, ints, one, low); high = omega (arith, ints, two, high) }

pub holds-planned : (e : Parts) (J : List Entry) → HoldsPlanned (axis_of e J) e
holds-planned e J own cycle within first last = is-on e J (height_in e own cycle) (drawn-planned e J (height_in e own cycle) (planned-between e own cycle within first last))

pub holds-modelled : (e : Parts) (J : List Entry) → length e.crafts ≤ 8 → HoldsModelled (axis_of e J) e J
holds-modelled e J few own cycle within first last = is-on e J (modelled_in e J own cycle) (drawn-modelled e J own cycle few within first last)

-- ---- places

-- How far an altitude of an axis is above its beginning.
pub record IsPart (low high height : ℤ) : Type 0 where
  pub some : 0 < unsigned_abs (high -ℤ low)
  pub within : unsigned_abs (height -ℤ low) ≤ unsigned_abs (high -ℤ low)

parted : (low high height : ℤ) → low ≤ℤ height → height <ℤ high → IsPart low high height
parted low high height first last = record { some = omega (arith, ints); within = omega (arith, ints) }

rising : (low one other : ℤ) → low ≤ℤ one → one ≤ℤ other → unsigned_abs (one -ℤ low) ≤ unsigned_abs (other -ℤ low)
rising low one other first order = omega (arith, ints)

in-order : (axis : Span) (low high : ℤ) → IsOn axis low → IsOn axis high → low ≤ℤ high → altitude_y axis high ≤ altitude_y axis low
unfolding altitude_y
in-order axis low high a b order =
    let from = height_of axis.low in
    let to = height_of axis.high in
    let part = parted from to high b.low b.high in
    let it = (kept 3200 (unsigned_abs (to -ℤ from)) (unsigned_abs (low -ℤ from)) (unsigned_abs (high -ℤ from)) part.some (rising from low high a.low order) part.within).in_order in
    omega (arith, it)

-- No altitude of an axis stands above the box.
pub high-enough : (axis : Span) (height : ℤ) → IsOn axis height → 1500 ≤ altitude_y axis height
unfolding altitude_y
high-enough axis height on =
    let from = height_of axis.low in
    let to = height_of axis.high in
    let part = parted from to height on.low on.high in
    let it = (kept 3200 (unsigned_abs (to -ℤ from)) 0 (unsigned_abs (height -ℤ from)) part.some (omega arith) part.within).within in
    omega (arith, it)

pub are-courses : (e : Parts) (J : List Entry) → AreCourses e J
are-courses e J = record { planned = holds-planned e J; modelled = holds-modelled e J; in_order = λ low high a b order. in-order (axis_of e J) low high a b order }
