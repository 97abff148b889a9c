-- How near two aircraft come, as planned.
use Rattle.std.specs.Prelude.{◌≡◌, ℕ, ◌+◌, ◌*◌, ◌<◌, ◌≤◌, Bool, nat_le, List, find, length, slice_index_or}
use Rattle.std.specs.List.{list_all, range_with_len}
use Rattle.std.specs.Option.{option_map_or}
use Rattle.acas_base.specs.Encounter.{Parts}
use Rattle.acas_base.specs.declared.TheConstants.{CRAFTS}
use Rattle.flight.specs.Flight.{position}
use Rattle.flight.specs.Measurement.{slant_range}

-- The slant range of two aircraft in a cycle, in whole feet.
abbrev pub range_between : Parts → ℕ → ℕ → ℕ → ℕ
range_between e a b cycle = slant_range (position e a cycle) (position e b cycle)

-- The slant ranges of each two aircraft in a cycle, each pair at its place among the ordered pairs.
abbrev pub AreRanges : Parts → ℕ → List ℕ → Type 0
AreRanges e cycle ranges = (a b : ℕ) → a < length e.crafts → b < length e.crafts → slice_index_or ranges (a * CRAFTS + b) 0 ≡ range_between e a b cycle

-- The first of the numbers from 1 to `last` at which a function is least.
pub record IsFirstLeast (f : ℕ → ℕ) (last best : ℕ) : Type 0 where
  pub begun : 1 ≤ best
  pub in_run : best ≤ last
  pub least : (k : ℕ) → 1 ≤ k → k ≤ last → f best ≤ f k
  pub first : (k : ℕ) → 1 ≤ k → k < best → f best < f k

-- In this cycle two aircraft are nearest. It is the first cycle of the run with their least slant range.
abbrev pub IsClosest : Parts → ℕ → ℕ → ℕ → Type 0
IsClosest e a b cycle = IsFirstLeast (range_between e a b) e.cycles cycle

-- In no cycle of the run is the slant range less than in this one.
abbrev pub is_least : Parts → ℕ → ℕ → ℕ → Bool
is_least e a b cycle = list_all (λ other. nat_le (range_between e a b cycle) (range_between e a b other)) (range_with_len 1 e.cycles)

-- The cycle in which they are nearest, as a function.
unfoldable pub closest_cycle : Parts → ℕ → ℕ → ℕ
closest_cycle e a b = option_map_or (λ cycle. cycle) (find (is_least e a b) (range_with_len 1 e.cycles)) 0
