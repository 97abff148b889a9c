-- Flights on the way to the encounter that is written. What lies past the cycles that are right may leave the limits.
use Rattle.std.specs.Prelude.{◌≡◌, ℕ, zero, suc, ◌-◌, ◌<◌, ◌≤◌, Bool, true, ◌&&◌, if◌then◌else◌, pos, neg_ℤ, ◌-ℤ◌, List, [], length, map, slice_index_or}
use Rattle.std.specs.List.{flat_map, range_with_len}
use Rattle.acas_base.specs.Encounter.{IsEncounter, Parts}
use Rattle.acas_base.specs.declared.craft.Leg.{Leg}
use Rattle.acas_base.specs.declared.entry.Entry.{Entry}
use Rattle.air_journal.specs.Airs.{air_of}
use Rattle.air_rules.specs.Serial.{IsSerial}
use Rattle.flight.specs.Flight.{legs_of, position}
use Rattle.flight.specs.Inside.{IsInside, is_between, is_in_box}
use Rattle.flight.specs.declared.place.Place.{Place}
use Rattle.followed_advice.specs.Following.{CanGoOn, DiffersInLegs, FollowsTo, aim, is_named}
use Rattle.leg_rows.specs.Rows.{legs_through, place_of}

-- ---- rows of places

-- Where an aircraft has to be in each cycle of the run.
abbrev pub aims : Parts → List ℕ → List Entry → ℕ → List Place
aims read named journal own = map (aim read named journal own) (range_with_len 1 read.cycles)

abbrev pub all_aims : Parts → List ℕ → List Entry → List (List Place)
all_aims read named journal = map (aims read named journal) (range_with_len 0 (length read.crafts))

-- The rows by the serial journal of an encounter.
pub record AreAimsAfter (read : Parts) (named : List ℕ) (flown : Parts) (rows : List (List Place)) : Type 0 where
  pub journal : List Entry
  pub serial : IsSerial (air_of flown) journal
  pub rows_are : rows ≡ all_aims read named journal

-- All aircraft are at the places of their rows in a cycle.
abbrev pub AreThere : Parts → List (List Place) → ℕ → Type 0
AreThere e rows cycle = (own : ℕ) → own < length e.crafts → position e own cycle ≡ place_of (slice_index_or rows own []) cycle

-- In some cycle not all are at their places, for the first time.
pub record IsFirstChange (e : Parts) (rows : List (List Place)) (cycle : ℕ) : Type 0 where
  pub begun : 1 ≤ cycle
  pub in_run : cycle ≤ e.cycles
  pub before : (k : ℕ) → 1 ≤ k → k < cycle → AreThere e rows k
  pub not_there : AreThere e rows cycle → ⊥

-- An aircraft can go on to the place of its row in a cycle.
abbrev pub GoesOn : Parts → List (List Place) → ℕ → ℕ → Type 0
GoesOn e rows own cycle = CanGoOn (position e own (cycle - 1)) (place_of (slice_index_or rows own []) cycle)

-- The first aircraft that can't.
pub record IsFirstLeaving (e : Parts) (rows : List (List Place)) (cycle own : ℕ) : Type 0 where
  pub craft : own < length e.crafts
  pub leaves : GoesOn e rows own cycle → ⊥
  pub lower : (other : ℕ) → other < own → GoesOn e rows other cycle

-- Rows of an encounter: one for each aircraft, with a place for each cycle.
pub record AreRows (read : Parts) (rows : List (List Place)) : Type 0 where
  pub count : length rows ≡ length read.crafts
  pub long : (own : ℕ) → own < length read.crafts → length (slice_index_or rows own []) ≡ read.cycles

-- Each aircraft begins at the first place of its row.
abbrev pub BeginThere : Parts → List (List Place) → Type 0
BeginThere read rows = (own : ℕ) → own < length read.crafts → place_of (slice_index_or rows own []) 1 ≡ position read own 1

-- ---- what is kept of a row

-- An aircraft can be at a place, and a leg can lead there.
abbrev pub can_go_on : Place → Place → Bool
can_go_on here there =
    is_in_box there
    && (is_between (neg_ℤ (pos 2000)) (pos 2000) (there.x -ℤ here.x)
    && (is_between (neg_ℤ (pos 2000)) (pos 2000) (there.y -ℤ here.y) && is_between (neg_ℤ (pos 10000)) (pos 10000) (there.z -ℤ here.z)))

-- An aircraft goes on to a place where it can. Where it can't it stays.
abbrev pub goes_on : Place → Place → Place
goes_on here there = if can_go_on here there then there else here

-- The places of a row, as far as an aircraft can go on to each.
abbrev pub kept : List Place → ℕ → Place
kept places zero = place_of places 1
kept places (suc n) = goes_on (kept places n) (place_of places (suc n))

abbrev pub kept_row : List Place → List Place
kept_row places = map (kept places) (range_with_len 1 (length places))

-- The legs of an aircraft: those that lead it through the kept places, where it is named, and else its own.
abbrev pub legs_along : Parts → List ℕ → List (List Place) → ℕ → List Leg
legs_along read named rows own =
    if is_named named own then legs_through own (kept_row (slice_index_or rows own [])) else legs_of read own

unfoldable pub all_legs : Parts → List ℕ → List (List Place) → List Leg
all_legs read named rows = flat_map (legs_along read named rows) (range_with_len 0 (length read.crafts))

-- An encounter within all limits, whose named aircraft fly through what is kept of their rows.
pub record FliesKept (read : Parts) (named : List ℕ) (rows : List (List Place)) (made : Parts) : Type 0 where
  pub valid : IsEncounter made
  pub inside : IsInside made
  pub differs : DiffersInLegs read named made
  pub places : (own cycle : ℕ) → own < length read.crafts → is_named named own ≡ true → 1 ≤ cycle → cycle ≤ read.cycles → position made own cycle ≡ kept (slice_index_or rows own []) cycle

-- An encounter within all limits that follows by its own serial journal up to a cycle.
pub record IsRightTo (read : Parts) (named : List ℕ) (flown : Parts) (last : ℕ) : Type 0 where
  pub valid : IsEncounter flown
  pub inside : IsInside flown
  pub differs : DiffersInLegs read named flown
  pub places : (journal : List Entry) → IsSerial (air_of flown) journal → FollowsTo read named flown journal last
