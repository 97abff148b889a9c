-- How far two aircraft are apart in each cycle, as planned, and the axis that holds it.
use Rattle.std.specs.Prelude.{ℕ, ◌≤◌, zero, suc, ◌+◌, ◌*◌, ◌/◌, ◌<◌, ◌^◌, ◌-ℤ◌, unsigned_abs, List, [], ◌∷◌, max}
use Rattle.acas_base.specs.Encounter.{Parts}
use Rattle.flight.specs.Approach.{range_between}
use Rattle.flight.specs.Flight.{position}
use Rattle.pair_panels.specs.declared.distance.Distance.{Distance}
use Rattle.pair_panels.specs.declared.distance.Distance.TheVariants.{Slant, Vertical}
use Rattle.pair_panels.specs.declared.ticks.Ticks.{Ticks}
use Rattle.pair_panels.specs.declared.nearest.NearPair.{NearPair}
use Rattle.plot_axes.specs.Steps.{step_for}
use Rattle.sens_table.specs.Run.{level_in}

-- How far two altitudes are apart, in whole feet, rounded down.
abbrev pub height_between : Parts → ℕ → ℕ → ℕ → ℕ
height_between e one other cycle = unsigned_abs ((position e one cycle).z -ℤ (position e other cycle).z) / 60

-- A distance of two aircraft in a cycle, in whole feet.
unfoldable pub distance_in : Parts → Distance → NearPair → ℕ → ℕ
distance_in e Slant pair cycle = range_between e pair.one pair.other cycle
distance_in e Vertical pair cycle = height_between e pair.one pair.other cycle

-- ALIM of the first aircraft in the cycle in which they are nearest, in ft.
unfoldable pub alim_of : Parts → NearPair → ℕ
alim_of e pair = unsigned_abs (level_in e pair.one pair.cycle).alim / 1024

-- What the distance is held against: ALIM, or 0 where there is nothing.
unfoldable pub aim_of : Parts → Distance → NearPair → ℕ
aim_of e Slant pair = 0
aim_of e Vertical pair = alim_of e pair

-- The greatest distance of the first cycles, and no less than a given one.
abbrev pub greatest : Parts → Distance → NearPair → ℕ → ℕ → ℕ
greatest e distance pair least zero = least
greatest e distance pair least (suc n) = max (greatest e distance pair least n) (distance_in e distance pair (suc n))

-- Steps in ft: of slant ranges 1/4, 1/2, 1, 2, 5, 10, 20, 50 and 100 NM of 6,076 ft each.
abbrev pub steps_of : Distance → List ℕ
steps_of Slant = 1519 ∷ 3038 ∷ 6076 ∷ 12152 ∷ 30380 ∷ 60760 ∷ 121520 ∷ 303800 ∷ 607600 ∷ []
steps_of Vertical = 100 ∷ 200 ∷ 500 ∷ 1000 ∷ 2000 ∷ 5000 ∷ 10000 ∷ 20000 ∷ []

-- The least step of which five reach over the greatest distance.
unfoldable pub step_of : Distance → ℕ → ℕ
step_of distance most = step_for most 5 0 (steps_of distance)

-- The axis begins at 0 and ends at the first step above the greatest distance.
unfoldable pub ticks_for : Distance → ℕ → Ticks
ticks_for distance most = record { step = step_of distance most; count = most / step_of distance most + 1 }

unfoldable pub ticks_of : Parts → Distance → NearPair → Ticks
ticks_of e distance pair = ticks_for distance (greatest e distance pair (aim_of e distance pair) e.cycles)

-- The value at the end of the axis.
abbrev pub end_of : Ticks → ℕ
end_of ticks = ticks.count * ticks.step

-- The ticks of an axis that has a length, and isn't too long.
pub record IsAxis (ticks : Ticks) : Type 0 where
  pub rises : 1 ≤ ticks.step
  pub some : 1 ≤ ticks.count
  pub near : end_of ticks < 2 ^ 27

-- The axis holds the distance of each cycle, and what it is held against.
pub record HoldsAll (e : Parts) (distance : Distance) (pair : NearPair) : Type 0 where
  pub each : (cycle : ℕ) → 1 ≤ cycle → cycle ≤ e.cycles → distance_in e distance pair cycle ≤ end_of (ticks_of e distance pair)
  pub aim : aim_of e distance pair ≤ end_of (ticks_of e distance pair)
