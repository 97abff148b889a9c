-- How far the aircraft of any encounter can come. It needn't stay in the box.
use Rattle.std.specs.Prelude.{ℕ, ◌<◌, ◌≤◌, pos, ◌+ℤ◌, ◌*ℤ◌, unsigned_abs, List, All, length, min, slice_get, slice_index_or}
use Rattle.std.specs.Option.{option_map_or}
use Rattle.acas_base.specs.Encounter.{AreRates}
use Rattle.acas_base.specs.Ranges.{IsCycle}
use Rattle.acas_base.specs.declared.craft.Leg.{Leg}
use Rattle.flight.specs.declared.place.Place.{Place}

-- A start in the ranges of an encounter.
pub record IsStart (p : Place) : Type 0 where
  pub x : unsigned_abs p.x ≤ 1000000
  pub y : unsigned_abs p.y ≤ 1000000
  pub z : unsigned_abs p.z ≤ 3600000

-- A place that can be reached from a start within 599 seconds, at no more than 2,000 ft/s on each axis and 10,000
-- ft/min.
pub record IsReachable (p : Place) : Type 0 where
  pub x : unsigned_abs p.x ≤ 2198000
  pub y : unsigned_abs p.y ≤ 2198000
  pub z : unsigned_abs p.z ≤ 9590000

-- Legs of one aircraft, in their order.
pub record IsCourse (legs : List Leg) : Type 0 where
  pub rising : (i j : ℕ) (d : Leg) → i < j → j < length legs → (slice_index_or legs i d).from < (slice_index_or legs j d).from
  pub from : All (λ (leg : Leg). IsCycle leg.from) legs
  pub rates : All AreRates legs

-- The cycle in which the leg at an index begins, but no later than a given cycle. Where there is no such leg it is the
-- given cycle.
abbrev pub begins : List Leg → ℕ → ℕ → ℕ
begins legs index cycle = option_map_or (λ (leg : Leg). min leg.from cycle) (slice_get legs index) cycle

-- The place after some seconds of a leg.
abbrev pub flown : Place → Leg → ℕ → Place
flown place leg seconds = record {
  x = place.x +ℤ (leg.vx *ℤ pos seconds);
  y = place.y +ℤ (leg.vy *ℤ pos seconds);
  z = place.z +ℤ (leg.vz *ℤ pos seconds);
}
