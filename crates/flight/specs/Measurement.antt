-- What one aircraft measures of another one.
use Rattle.std.specs.Prelude.{◌≡◌, ℕ, zero, suc, ◌+◌, ◌*◌, ◌/◌, ◌<◌, ◌≤◌, ◌==◌, ◌&&◌, nat_lt, nat_le, if◌then◌else◌, Bool, false, ℤ, pos, ◌+ℤ◌, ◌-ℤ◌, ◌*ℤ◌, unsigned_abs, List, [], ◌∷◌, slice_index_or, Option, Some, None}
use Rattle.std.specs.Int.{int_div_euclid}
use Rattle.std.specs.List.{list_any}
use Rattle.acas_base.specs.Encounter.{Parts}
use Rattle.acas_base.specs.declared.TheConstants.{CRAFTS}
use Rattle.acas_base.specs.declared.craft.Miss.{Miss}
use Rattle.acas_num.specs.Root.{root}
use Rattle.flight.specs.Flight.{nowhere, position}
use Rattle.flight.specs.declared.place.Place.{Place}
use Rattle.flight.specs.declared.measuring.Meas.{Meas}

-- An altitude in 1/60 ft, as whole feet, rounded down.
abbrev pub feet : ℤ → ℤ
feet z = int_div_euclid z (pos 60)

-- An altitude in 1/60 ft as it is reported: the nearest multiple of 25 ft, and the higher one where two are as near.
abbrev pub reported : ℤ → ℤ
reported z = pos 25 *ℤ int_div_euclid (z +ℤ pos 750) (pos 1500)

abbrev pub square : ℤ → ℕ
square a = unsigned_abs a * unsigned_abs a

-- The square of the distance between two places, in 1/3600 square feet.
abbrev pub distance : Place → Place → ℕ
distance p q = 3600 * square (p.x -ℤ q.x) + 3600 * square (p.y -ℤ q.y) + square (p.z -ℤ q.z)

-- The greatest whole number of feet that is no more than the distance between two places.
pub record IsSlantRange (p q : Place) (r : ℕ) : Type 0 where
  pub within : 3600 * (r * r) ≤ distance p q
  pub greatest : (s : ℕ) → 3600 * (s * s) ≤ distance p q → s ≤ r

-- That number. The greatest r with 3600*r*r at most n is the root of n/3600, rounded down.
unfoldable pub slant_range : Place → Place → ℕ
slant_range p q = root (distance p q / 3600)

-- The slant ranges of each two of the first places, each pair at its place among the ordered pairs.
abbrev pub AreSlantRanges : List Place → ℕ → List ℕ → Type 0
AreSlantRanges places count ranges =
    (a b : ℕ) → a < count → b < count → slice_index_or ranges (a * CRAFTS + b) 0 ≡ slant_range (slice_index_or places a nowhere) (slice_index_or places b nowhere)

-- The greatest range that is measured, in ft.
abbrev pub longest : ℕ
longest = 182280

-- The cycles of a record of a miss.
abbrev pub lasts_in : ℕ → Miss → Bool
lasts_in cycle miss = nat_le miss.from cycle && nat_le cycle miss.to

-- A record of a miss of this own aircraft and this target, in that order, that covers a cycle.
abbrev pub covers : ℕ → ℕ → ℕ → Miss → Bool
covers own target cycle miss = (miss.own == own && miss.target == target) && lasts_in cycle miss

-- Whether a record says that the measurement is missed.
abbrev pub is_missed : Parts → ℕ → ℕ → ℕ → Bool
is_missed e own target cycle = list_any (covers own target cycle) e.misses

-- A record of a miss of this own aircraft that lasts in a cycle.
abbrev pub is_of_own : ℕ → ℕ → Miss → Bool
is_of_own own cycle miss = miss.own == own && lasts_in cycle miss

-- For each own aircraft whether a record says that it misses some target in a cycle.
abbrev pub AreMissing : Parts → ℕ → List Bool → Type 0
AreMissing e cycle owns = (own : ℕ) → own < CRAFTS → slice_index_or owns own false ≡ list_any (is_of_own own cycle) e.misses

-- A range, and the altitude reported at a place; none where the range is too long.
abbrev pub measured_by : ℕ → Place → Option Meas
measured_by range there = if nat_lt longest range then None else Some (record { range = range; alt = reported there.z })

-- The range from one place to another one, and the altitude reported there.
abbrev pub measured : Place → Place → Option Meas
measured here there = measured_by (slant_range here there) there

-- What an own aircraft measures of a target in a cycle.
unfoldable pub measurement : Parts → ℕ → ℕ → ℕ → Option Meas
measurement e own target cycle =
    if is_missed e own target cycle then None else measured (position e own cycle) (position e target cycle)

-- The altitude that an aircraft measures of itself.
unfoldable pub own_altitude : Parts → ℕ → ℕ → ℤ
own_altitude e craft cycle = feet (position e craft cycle).z

-- What a function of the cycle gives in the cycles 1 to n, the newest first.
abbrev pub newest_first : {X : Type 0} → (ℕ → X) → ℕ → List X
newest_first f zero = []
newest_first f (suc n) = f (suc n) ∷ newest_first f n
