-- A start that is moved, and a flight that is later.
use Rattle.std.specs.Prelude.{◌≡◌, ◌≢◌, ℕ, ◌<◌, ◌≤◌, ◌==◌, nat_lt, if◌then◌else◌, ℤ, pos, int_le, ◌+ℤ◌, ◌-ℤ◌, ◌*ℤ◌, unsigned_abs, List, ◌++◌, filter, length, map, slice_get, slice_set, unwrap_or}
use Rattle.std.specs.Int.{int_div_euclid}
use Rattle.std.specs.List.{range_with_len}
use Rattle.std.specs.Option.{option_map_or}
use Rattle.acas_base.specs.Encounter.{Parts}
use Rattle.acas_base.specs.declared.craft.CraftSpec.{CraftSpec}
use Rattle.acas_base.specs.declared.craft.Leg.{Leg}
use Rattle.flight.specs.Flight.{leg_in, legs_of, position}
use Rattle.flight.specs.declared.place.Place.{Place}
use Rattle.leg_rows.specs.Flights.{at_place}
use Rattle.leg_rows.specs.Rows.{legs_through}
use Rattle.variants.specs.declared.change.Axis.{Axis}
use Rattle.variants.specs.declared.change.Axis.TheVariants.{X, Y, Altitude}
use Rattle.variants.specs.declared.change.Quantity.{Quantity}
use Rattle.variants.specs.declared.change.Quantity.TheVariants.{Start, Late}

-- Two encounters have the same run: format, profile, cycles, ground and gains. They have the same labels too: name, time
-- of day and call signs.
pub record IsSameRun (d e : Parts) : Type 0 where
  pub version : d.version ≡ e.version
  pub profile : d.profile ≡ e.profile
  pub cycles : d.cycles ≡ e.cycles
  pub terrain : d.elevation ≡ e.elevation
  pub range : d.range ≡ e.range
  pub altitude : d.altitude ≡ e.altitude
  pub name : d.name ≡ e.name
  pub clock : d.clock ≡ e.clock
  pub calls : d.calls ≡ e.calls

-- The aircraft, where the one at an index is changed and all others are as they were.
abbrev pub with_craft : ℕ → (CraftSpec → CraftSpec) → List CraftSpec → List CraftSpec
with_craft index change crafts = option_map_or (λ (craft : CraftSpec). slice_set crafts index (change craft)) (slice_get crafts index) crafts

-- An aircraft whose start is moved by so many feet along an axis.
abbrev pub moved : Axis → ℤ → CraftSpec → CraftSpec
moved X feet craft = record { address = craft.address; kind = craft.kind; x = craft.x +ℤ feet; y = craft.y; alt = craft.alt; ceiling = craft.ceiling }
moved Y feet craft = record { address = craft.address; kind = craft.kind; x = craft.x; y = craft.y +ℤ feet; alt = craft.alt; ceiling = craft.ceiling }
moved Altitude feet craft = record { address = craft.address; kind = craft.kind; x = craft.x; y = craft.y; alt = craft.alt +ℤ feet; ceiling = craft.ceiling }

-- The encounter `d` is `e` with the start of one aircraft moved.
pub record IsMoved (e : Parts) (craft : ℕ) (axis : Axis) (feet : ℤ) (d : Parts) : Type 0 where
  pub run : IsSameRun d e
  pub there : craft < length e.crafts
  pub crafts : d.crafts ≡ with_craft craft (moved axis feet) e.crafts
  pub legs : d.legs ≡ e.legs
  pub misses : d.misses ≡ e.misses
  pub plans : d.plans ≡ e.plans
  pub fates : d.fates ≡ e.fates

-- A leg of rest.
abbrev pub resting : Leg
resting = record { craft = 0; from = 1; vx = pos 0; vy = pos 0; vz = pos 0 }

-- The leg that an aircraft flies from a cycle to the next, or a leg of rest before its first one.
abbrev pub leg_from : Parts → ℕ → ℕ → Leg
leg_from e craft cycle = unwrap_or (leg_in (legs_of e craft) cycle) resting

-- The place that lies so many seconds of a leg after another one. Below zero these are seconds before it.
abbrev pub carried_on : Place → Leg → ℤ → Place
carried_on place leg seconds = record {
  x = place.x +ℤ (leg.vx *ℤ seconds);
  y = place.y +ℤ (leg.vy *ℤ seconds);
  z = place.z +ℤ (leg.vz *ℤ seconds);
}

-- The place of an aircraft in a cycle that may lie before cycle 1. Such a place is drawn backwards along the rates of
-- cycle 1. After its last leg has begun the aircraft flies on by that leg, beyond the end of the run too.
unfoldable pub drawn_place : Parts → ℕ → ℤ → Place
drawn_place e craft cycle =
    if int_le (pos 1) cycle then position e craft (unsigned_abs cycle) else carried_on (position e craft 1) (leg_from e craft 1) (cycle -ℤ pos 1)

-- The whole foot that is nearest to an altitude in 1/60 ft, and the greater one where two are as near.
abbrev pub nearest_foot : ℤ → ℤ
nearest_foot z = int_div_euclid (z +ℤ pos 30) (pos 60)

-- The place with the nearest whole foot as its altitude.
abbrev pub at_whole_foot : Place → Place
at_whole_foot place = record { x = place.x; y = place.y; z = pos 60 *ℤ nearest_foot place.z }

-- The place in a cycle of an aircraft whose whole flight is so many cycles later: that of the cycle so many before. In
-- cycle 1 its altitude is a whole foot.
abbrev pub late_place : Parts → ℕ → ℤ → ℕ → Place
late_place e craft late cycle =
    if cycle == 1 then at_whole_foot (drawn_place e craft (pos 1 -ℤ late)) else drawn_place e craft (pos cycle -ℤ late)

-- Its places in the cycles of the run.
unfoldable pub late_places : Parts → ℕ → ℤ → List Place
late_places e craft late = map (late_place e craft late) (range_with_len 1 e.cycles)

-- The legs of all aircraft, where one has those that lead through given places and all others have theirs.
abbrev pub with_legs : ℕ → List Place → List Leg → List Leg
with_legs craft places legs =
    filter (λ (leg : Leg). nat_lt leg.craft craft) legs ++ (legs_through craft places ++ filter (λ (leg : Leg). nat_lt craft leg.craft) legs)

-- The encounter `d` is `e` with the whole flight of one aircraft so many cycles later.
pub record IsLate (e : Parts) (craft : ℕ) (late : ℤ) (d : Parts) : Type 0 where
  pub run : IsSameRun d e
  pub there : craft < length e.crafts
  pub crafts : d.crafts ≡ with_craft craft (λ spec. at_place spec (late_place e craft late 1)) e.crafts
  pub legs : d.legs ≡ with_legs craft (late_places e craft late) e.legs
  pub misses : d.misses ≡ e.misses
  pub plans : d.plans ≡ e.plans
  pub fates : d.fates ≡ e.fates

-- What the value of a quantity changes.
abbrev pub IsShifted : Parts → Quantity → ℕ → ℤ → Parts → Type 0
IsShifted e (Start axis) craft value d = IsMoved e craft axis value d
IsShifted e Late craft value d = IsLate e craft value d

-- In each cycle of the run the aircraft is where its later flight leads, and each other aircraft is where it was.
pub record FliesLate (e : Parts) (craft : ℕ) (late : ℤ) (d : Parts) : Type 0 where
  pub own : (cycle : ℕ) → 1 ≤ cycle → cycle ≤ e.cycles → position d craft cycle ≡ late_place e craft late cycle
  pub others : (other cycle : ℕ) → other ≢ craft → position d other cycle ≡ position e other cycle
