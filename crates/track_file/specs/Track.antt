-- The track of one aircraft: where it was at some times. Between two points the track is straight.
use Rattle.std.specs.Prelude.{◌≡◌, ℕ, ◌-◌, ◌*◌, ◌==◌, ◌&&◌, Bool, true, ℤ, pos, neg_ℤ, ◌-ℤ◌, ◌<ℤ◌, int_le, if◌then◌else◌, List, Option, All, length, find, reverse, unsigned_abs}
use Rattle.std.specs.List.{AllAdjacentBelow, list_any}
use Rattle.std.specs.Option.{option_map_or}
use Rattle.acas_base.specs.Ranges.{IsBetween, IsWithin}
use Rattle.flight.specs.Flight.{nowhere}
use Rattle.flight.specs.declared.place.Place.{Place}
use Rattle.track_file.specs.Rounding.{IsNear, mean, nearest}
use Rattle.track_file.specs.declared.rounding.Fraction.{Fraction}
use Rattle.track_file.specs.declared.track.Point.{Point}

-- The place of a point is in the box.
pub record IsPlaced (p : Point) : Type 0 where
  pub x : IsWithin 1000000 p.x
  pub y : IsWithin 1000000 p.y
  pub z : IsBetween (neg_ℤ (pos 60000)) (pos 3600000) p.z

-- A point of a track: at most 1,000 s from cycle 1, and in the box.
pub record IsPoint (p : Point) : Type 0 where
  pub ms : IsWithin 1000000 p.ms
  pub place : IsPlaced p

-- Points at rising times.
pub record IsTrack (points : List Point) : Type 0 where
  pub ranges : All IsPoint points
  pub rising : AllAdjacentBelow (λ (a b : Point). a.ms <ℤ b.ms) points (length points)

-- The time of a cycle, in ms after cycle 1.
abbrev pub time_of : ℕ → ℤ
time_of cycle = pos (1000 * (cycle - 1))

-- A time in the longest run.
abbrev pub IsTime : ℤ → Type 0
IsTime time = IsBetween (pos 0) (pos 599000) time

-- A point is at a time or before it.
abbrev pub is_by : ℤ → Point → Bool
is_by time p = int_le p.ms time

-- A point is at a time or after it.
abbrev pub is_from : ℤ → Point → Bool
is_from time p = int_le time p.ms

-- A track covers a run of some cycles: it has a point at cycle 1 or before it, and one at the last cycle or after it.
abbrev pub covers : List Point → ℕ → Bool
covers points cycles = list_any (is_by (pos 0)) points && list_any (is_from (time_of cycles)) points

-- A track covers one cycle: it has a point at the cycle or before it, and one at the cycle or after it.
pub record IsCovered (points : List Point) (cycle : ℕ) : Type 0 where
  pub some_by : list_any (is_by (time_of cycle)) points ≡ true
  pub some_from : list_any (is_from (time_of cycle)) points ≡ true

-- One coordinate at a time, on the straight line from one point to another one. Each point counts by how far the time
-- is from the other one.
abbrev pub on_line : (Point → ℤ) → Point → Point → ℤ → Fraction
on_line value a b time = mean (value a) (unsigned_abs (b.ms -ℤ time)) (value b) (unsigned_abs (time -ℤ a.ms))

-- The unit of the altitude in a cycle, in 1/60 ft. In cycle 1 it is a foot, since an aircraft begins at whole feet.
abbrev pub unit_of : ℕ → ℕ
unit_of cycle = if cycle == 1 then 60 else 1

-- The place in a cycle between two points, each coordinate rounded.
abbrev pub rounded_between : Point → Point → ℕ → Place
rounded_between a b cycle = record {
  x = nearest 1 (on_line (λ p. p.x) a b (time_of cycle));
  y = nearest 1 (on_line (λ p. p.y) a b (time_of cycle));
  z = nearest (unit_of cycle) (on_line (λ p. p.z) a b (time_of cycle));
}

-- Each coordinate of a place in a cycle is at most half its unit away from the line between two points.
pub record IsNearTrack (a b : Point) (cycle : ℕ) (place : Place) : Type 0 where
  pub x : IsNear 1 (on_line (λ p. p.x) a b (time_of cycle)) place.x
  pub y : IsNear 1 (on_line (λ p. p.y) a b (time_of cycle)) place.y
  pub z : IsNear (unit_of cycle) (on_line (λ p. p.z) a b (time_of cycle)) place.z

-- The last point at a time or before it, and the first one at the time or after it.
abbrev pub last_by : List Point → ℤ → Option Point
last_by points time = find (is_by time) (reverse points)

abbrev pub first_from : List Point → ℤ → Option Point
first_from points time = find (is_from time) points

-- The rounded place in a cycle that a track covers.
unfoldable pub rounded : List Point → ℕ → Place
rounded points cycle = option_map_or (λ a. option_map_or (λ b. rounded_between a b cycle) (first_from points (time_of cycle)) nowhere) (last_by points (time_of cycle)) nowhere
