-- The box shows the place of each aircraft in each cycle.
use Rattle.std.proofs.Common.{ℕ, zero, suc, ◌+◌, ◌*◌, ◌/◌, ◌<◌, ◌≤◌, ℤ, pos, ◌+ℤ◌, ◌-ℤ◌, ◌*ℤ◌, ◌≤ℤ◌, ◌<ℤ◌, length, unsigned_abs, sym, subst, arith, inl, inr}
use Rattle.std.proofs.lemmas.Bool.{cases_eq}
use Rattle.std.proofs.lemmas.Int.{ints, clamps}
use Rattle.acas_base.specs.Encounter.{Parts}
use Rattle.acas_num.proofs.Quotients.{quotient}
use Rattle.flight.specs.Flight.{position}
use Rattle.flight.specs.declared.place.Place.{Place}
use Rattle.plan_panel.specs.Places.{HoldsAll, IsOn, axis_over, extent_of, middle, need_of, over_crafts, over_cycles, side_for, view_of, width_of, with_place, with_value}
use Rattle.plan_panel.specs.declared.extent.Extent.{Extent}
use Rattle.plan_panel.specs.declared.extent.Span.{Span}

-- ---- the extent holds each place

record IsIn (span : Span) (value : ℤ) : Type 0 where
  low : span.low ≤ℤ value
  high : value ≤ℤ span.high

record HasPlace (extent : Extent) (place : Place) : Type 0 where
  x : IsIn extent.x place.x
  y : IsIn extent.y place.y

kept-value : (span : Span) (one value : ℤ) → IsIn span value → IsIn (with_value span one) value
kept-value span one value b = let low = b.low in let high = b.high in record { low = omega (arith, ints, clamps); high = omega (arith, ints, clamps) }

new-value : (span : Span) (value : ℤ) → IsIn (with_value span value) value
new-value span value = record { low = omega (arith, ints, clamps); high = omega (arith, ints, clamps) }

keeps : (extent : Extent) (one place : Place) → HasPlace extent place → HasPlace (with_place extent one) place
keeps extent one place h = record { x = kept-value extent.x one.x place.x h.x; y = kept-value extent.y one.y place.y h.y }

newest : (extent : Extent) (place : Place) → HasPlace (with_place extent place) place
newest extent place = record { x = new-value extent.x place.x; y = new-value extent.y place.y }

cycles-keep : (e : Parts) (own : ℕ) (extent : Extent) (n : ℕ) (place : Place) → HasPlace extent place → HasPlace (over_cycles e own extent n) place
cycles-keep e own extent zero place h = h
cycles-keep e own extent (suc n) place h = keeps (over_cycles e own extent n) (position e own (suc n)) place (cycles-keep e own extent n place h)

cycles-hold : (e : Parts) (own : ℕ) (extent : Extent) (n cycle : ℕ) → 1 ≤ cycle → cycle ≤ n → HasPlace (over_cycles e own extent n) (position e own cycle)
cycles-hold e own extent zero cycle first last = absurd (omega arith)
cycles-hold e own extent (suc n) cycle first last = elim (cases_eq cycle (suc n)) [
  | inl here ↦ subst (λ (k : ℕ). HasPlace (over_cycles e own extent (suc n)) (position e own k)) (sym here) (newest (over_cycles e own extent n) (position e own (suc n)))
  | inr apart ↦ keeps (over_cycles e own extent n) (position e own (suc n)) (position e own cycle) (cycles-hold e own extent n cycle first (omega arith))
]

crafts-hold : (e : Parts) (n own cycle : ℕ) → own < n → 1 ≤ cycle → cycle ≤ e.cycles → HasPlace (over_crafts e n) (position e own cycle)
crafts-hold e zero own cycle within first last = absurd (omega arith)
crafts-hold e (suc n) own cycle within first last = elim (cases_eq own n) [
  | inl here ↦ subst (λ (k : ℕ). HasPlace (over_crafts e (suc n)) (position e k cycle)) (sym here) (cycles-hold e n (over_crafts e n) e.cycles cycle first last)
  | inr apart ↦ cycles-keep e n (over_crafts e n) e.cycles (position e own cycle) (crafts-hold e n own cycle (omega arith) first last)
]

-- ---- an axis with some room holds a span

-- A number is in the middle of two others, rounded down.
record IsMiddle (low high middle : ℤ) : Type 0 where
  least : (middle *ℤ pos 2) ≤ℤ (low +ℤ high)
  most : (low +ℤ high) <ℤ ((middle +ℤ pos 1) *ℤ pos 2)

middled : (span : Span) → IsMiddle span.low span.high (middle span)
middled span = let q = quotient (span.low +ℤ span.high) (pos 2) (omega (arith, ints)) in record { least = q.within; most = q.no_more }

record IsBetween (low value : ℤ) (whole : ℕ) : Type 0 where
  low_is : low ≤ℤ value
  high : value ≤ℤ (low +ℤ pos whole)
  least : whole ≤ 20 * unsigned_abs (value -ℤ low)
  most : 20 * unsigned_abs (value -ℤ low) ≤ 19 * whole

between : (low high middle value : ℤ) (whole : ℕ) → IsMiddle low high middle → 10 * unsigned_abs (high -ℤ low) + 10 ≤ 9 * whole → low ≤ℤ value → value ≤ℤ high →
    IsBetween (middle -ℤ pos (whole / 2)) value whole
between low high middle value whole m room first last =
    let a = m.least in
    let b = m.most in
    record { low_is = omega (arith, ints); high = omega (arith, ints); least = omega (arith, ints); most = omega (arith, ints) }

on-axis : (span : Span) (value : ℤ) (whole : ℕ) → 10 * width_of span + 10 ≤ 9 * whole → IsIn span value → IsOn (axis_over span whole) value
on-axis span value whole room is =
    let b = between span.low span.high (middle span) value whole (middled span) room is.low is.high in
    record { low = b.low_is; high = b.high; least = b.least; most = b.most }

-- ---- the box is large enough

wide-enough : (width need : ℕ) → width / 4 ≤ need → 1519 ≤ need → 10 * width + 10 ≤ 9 * (4 * side_for need)
wide-enough width need a b = omega arith

high-enough : (width need : ℕ) → width / 3 ≤ need → 1519 ≤ need → 10 * width + 10 ≤ 9 * (3 * side_for need)
high-enough width need a b = omega arith

record IsNeed (extent : Extent) : Type 0 where
  x : width_of extent.x / 4 ≤ need_of extent
  y : width_of extent.y / 3 ≤ need_of extent
  least : 1519 ≤ need_of extent

needed : (extent : Extent) → IsNeed extent
needed extent = record { x = omega arith; y = omega arith; least = omega arith }

pub holds-all : (e : Parts) → HoldsAll e
unfolding view_of extent_of
holds-all e own cycle within first last =
    let extent = over_crafts e (length e.crafts) in
    let is = crafts-hold e (length e.crafts) own cycle within first last in
    let need = needed extent in
    record {
      x = on-axis extent.x (position e own cycle).x (4 * side_for (need_of extent)) (wide-enough (width_of extent.x) (need_of extent) need.x need.least) is.x;
      y = on-axis extent.y (position e own cycle).y (3 * side_for (need_of extent)) (high-enough (width_of extent.y) (need_of extent) need.y need.least) is.y;
    }
