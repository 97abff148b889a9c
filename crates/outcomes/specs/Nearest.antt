-- The two aircraft that come nearest, as planned.
use Rattle.std.specs.Prelude.{◌≡◌, ℕ, ◌+◌, ◌*◌, ◌<◌, ◌≤◌, if◌then◌else◌, nat_lt, List, length, Option, MatchOption}
use Rattle.acas_base.specs.Encounter.{Parts}
use Rattle.acas_base.specs.declared.TheConstants.{CRAFTS}
use Rattle.acas_base.specs.declared.entry.Entry.{Entry}
use Rattle.air_journal.specs.Airs.{address_of}
use Rattle.flight.specs.Approach.{closest_cycle, range_between}
use Rattle.response.specs.Response.{flown_apart, planned_apart}
use Rattle.outcomes.specs.declared.nearest.Approach.{Approach}
use Rattle.outcomes.specs.declared.nearest.Nearest.{Nearest}

-- The least slant range of two aircraft in the run, as planned, in whole feet.
abbrev pub least_range : Parts → ℕ → ℕ → ℕ
least_range e a b = range_between e a b (closest_cycle e a b)

-- The place of two aircraft in the order of pairs: by the lower index, and then by the higher one.
abbrev pub place_of_pair : ℕ → ℕ → ℕ
place_of_pair a b = a * CRAFTS + b

-- Of all pairs with a place below `end` these two come nearest; of those that come as near they are the first.
pub record AreNearestBelow (e : Parts) (end a b : ℕ) : Type 0 where
  pub lower : a < b
  pub higher : b < length e.crafts
  pub least : (c d : ℕ) → c < d → d < length e.crafts → place_of_pair c d < end → least_range e a b ≤ least_range e c d
  pub first : (c d : ℕ) → c < d → d < length e.crafts → place_of_pair c d < place_of_pair a b → least_range e a b < least_range e c d

-- These two aircraft come nearest of all; of those that come as near they are the first, by their indices.
pub record AreNearest (e : Parts) (a b : ℕ) : Type 0 where
  pub lower : a < b
  pub higher : b < length e.crafts
  pub least : (c d : ℕ) → c < d → d < length e.crafts → least_range e a b ≤ least_range e c d
  pub first : (c d : ℕ) → c < d → d < length e.crafts → place_of_pair c d < place_of_pair a b → least_range e a b < least_range e c d

-- What is told of these two: their addresses, the first cycle of their least slant range, that range, and how far apart
-- their altitudes are in that cycle, as planned and with the modelled response.
pub record IsNearest (e : Parts) (journal : List Entry) (it : Nearest) : Type 0 where
  pub nearest : AreNearest e it.low it.high
  pub one : it.one ≡ address_of e it.low
  pub other : it.other ≡ address_of e it.high
  pub cycle : it.cycle ≡ closest_cycle e it.low it.high
  pub slant : it.slant ≡ least_range e it.low it.high
  pub planned : it.planned ≡ planned_apart e it.low it.high it.cycle
  pub flown : it.flown ≡ flown_apart e journal it.low it.high it.cycle

-- ---- while it is sought

-- The first cycle of the least slant range of two aircraft, and that range.
pub record IsApproach (e : Parts) (it : Approach) : Type 0 where
  pub cycle : it.cycle ≡ closest_cycle e it.low it.high
  pub range : it.range ≡ least_range e it.low it.high
  pub begun : 1 ≤ it.cycle
  pub in_run : it.cycle ≤ e.cycles

-- What was found among the pairs with a place below `end`.
pub record IsApproachBelow (e : Parts) (end : ℕ) (it : Approach) : Type 0 where
  pub approach : IsApproach e it
  pub nearest : AreNearestBelow e end it.low it.high

-- No pair has a place below `end`.
pub record IsNoneBelow (e : Parts) (end : ℕ) : Type 0 where
  pub none : (c d : ℕ) → c < d → d < length e.crafts → end ≤ place_of_pair c d

abbrev pub IsFoundBelow : Parts → ℕ → Option Approach → Type 0
IsFoundBelow e end found = MatchOption found (IsNoneBelow e end) (IsApproachBelow e end)

-- What was found among all pairs.
pub record IsNearestApproach (e : Parts) (it : Approach) : Type 0 where
  pub approach : IsApproach e it
  pub nearest : AreNearest e it.low it.high

-- Of two approaches the nearer one, and of two as near the first.
abbrev pub nearer : Approach → Approach → Approach
nearer found next = if nat_lt next.range found.range then next else found
