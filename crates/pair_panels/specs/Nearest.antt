-- The pair of aircraft that come nearest, as planned.
use Rattle.std.specs.Prelude.{◌≡◌, ℕ, zero, suc, ◌+◌, ◌*◌, ◌/◌, ◌%◌, ◌<◌, ◌≤◌, Bool, true, ◌&&◌, ◌||◌, nat_lt, if◌then◌else◌, length, Option, Some, None}
use Rattle.acas_base.specs.Encounter.{Parts, is_active_at}
use Rattle.acas_base.specs.declared.TheConstants.{CRAFTS}
use Rattle.acas_base.specs.declared.pairs.TheConstants.{PAIRS}
use Rattle.flight.specs.Approach.{IsClosest, closest_cycle, range_between}
use Rattle.pair_panels.specs.declared.nearest.NearPair.{NearPair}

-- Two aircraft have a number: 16 times the lower index, and the higher one. So numbers go by indices.
abbrev pub low : ℕ → ℕ
low number = number / CRAFTS

abbrev pub high : ℕ → ℕ
high number = number % CRAFTS

-- Two aircraft in the order of their indices, at least one of which advises.
abbrev pub are_pair : Parts → ℕ → ℕ → Bool
are_pair e one other = nat_lt one other && (nat_lt other (length e.crafts) && (is_active_at e.crafts one || is_active_at e.crafts other))

-- Two aircraft, the first cycle of least slant range, and that range in whole feet.
abbrev pub near_pair : Parts → ℕ → ℕ → NearPair
near_pair e one other = record { one = one; other = other; cycle = closest_cycle e one other; range = range_between e one other (closest_cycle e one other) }

-- The pair with a number, if there is one.
unfoldable pub pair_at : Parts → ℕ → Option NearPair
pair_at e number = if are_pair e (low number) (high number) then Some (near_pair e (low number) (high number)) else None

-- The nearer of two pairs; the first one where both are as near.
abbrev pub nearer : Option NearPair → Option NearPair → Option NearPair
nearer None next = next
nearer (Some best) None = Some best
nearer (Some best) (Some next) = if nat_lt next.range best.range then Some next else Some best

-- The nearest of the pairs with the first numbers.
abbrev pub nearest_of : Parts → ℕ → Option NearPair
nearest_of e zero = None
nearest_of e (suc n) = nearer (nearest_of e n) (pair_at e n)

-- The nearest pair with an aircraft that advises.
unfoldable pub nearest_pair : Parts → Option NearPair
nearest_pair e = nearest_of e PAIRS

-- Two aircraft of the encounter, and a cycle of its run.
pub record IsPair (e : Parts) (pair : NearPair) : Type 0 where
  pub one : pair.one < length e.crafts
  pub other : pair.other < length e.crafts
  pub begun : 1 ≤ pair.cycle
  pub in_run : pair.cycle ≤ e.cycles

-- Two aircraft, one of which advises, and where they are nearest. No such pair comes nearer, and of those that come as
-- near it has the least indices.
pub record IsNearestPair (e : Parts) (pair : NearPair) : Type 0 where
  pub are : are_pair e pair.one pair.other ≡ true
  pub closest : IsClosest e pair.one pair.other pair.cycle
  pub range : pair.range ≡ range_between e pair.one pair.other pair.cycle
  pub least : (one other : ℕ) → are_pair e one other ≡ true → pair.range ≤ (near_pair e one other).range
  pub first : (one other : ℕ) → are_pair e one other ≡ true → one * CRAFTS + other < pair.one * CRAFTS + pair.other → pair.range < (near_pair e one other).range

-- Where there is no nearest pair, there is none at all.
abbrev pub IsNearest : Parts → Option NearPair → Type 0
IsNearest e None = (one other : ℕ) → are_pair e one other ≡ true → ⊥
IsNearest e (Some pair) = IsNearestPair e pair
