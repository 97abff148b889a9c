-- The encounter in which some aircraft follow their own advice (this project's profile). What is planned is that of the
-- encounter that is read. What is advised is that of the encounter that is written.
use Rattle.std.specs.Prelude.{◌≡◌, ℕ, ◌-◌, ◌<◌, ◌≤◌, Bool, true, false, if◌then◌else◌, ◌==◌, ℤ, pos, ◌+ℤ◌, ◌*ℤ◌, ◌<ℤ◌, ◌≤ℤ◌, List, length}
use Rattle.std.specs.Int.{int_div_euclid}
use Rattle.std.specs.List.{list_any}
use Rattle.acas_base.specs.Encounter.{IsEncounter, Parts}
use Rattle.acas_base.specs.declared.entry.Entry.{Entry}
use Rattle.air_journal.specs.Airs.{air_of}
use Rattle.air_rules.specs.Serial.{IsSerial}
use Rattle.flight.specs.Flight.{legs_of, position}
use Rattle.flight.specs.Inside.{IsInBox, IsInside}
use Rattle.flight.specs.declared.place.Place.{Place}
use Rattle.leg_rows.specs.Rows.{AreLegRates, AreNeeded, at_rest, change}
use Rattle.response.specs.Flown.{flown}

-- ---- where the aircraft have to be

-- An aircraft is among those that are named, by index.
abbrev pub is_named : List ℕ → ℕ → Bool
is_named named own = list_any (λ k. k == own) named

-- An altitude in 1/2048 ft, as the nearest multiple of 1/60 ft, and the greater one where two are as near.
unfoldable pub sixtieths : ℤ → ℤ
sixtieths altitude = int_div_euclid ((pos 60 *ℤ altitude) +ℤ pos 1024) (pos 2048)

-- An altitude in 1/60 ft is at most half of 1/60 ft above one in 1/2048 ft, and less than that below it.
pub record IsNearest (altitude z : ℤ) : Type 0 where
  pub not_above : (pos 4096 *ℤ z) ≤ℤ ((pos 120 *ℤ altitude) +ℤ pos 2048)
  pub not_below : (pos 120 *ℤ altitude) <ℤ ((pos 4096 *ℤ z) +ℤ pos 2048)

-- Where an aircraft is in a cycle that flies as planned but for its altitude. That is the altitude of the modelled
-- response to what its commits say in a journal, rounded. Only the place is rounded, and never the motion.
abbrev pub followed : Parts → List Entry → ℕ → ℕ → Place
followed read journal own cycle = record {
  x = (position read own cycle).x;
  y = (position read own cycle).y;
  z = sixtieths (flown read journal own cycle);
}

-- Where an aircraft has to be in a cycle: a named one as it follows its advice, and another one as planned.
abbrev pub aim : Parts → List ℕ → List Entry → ℕ → ℕ → Place
aim read named journal own cycle = if is_named named own then followed read journal own cycle else position read own cycle

-- In each cycle up to one, each aircraft is where it has to be by a journal.
abbrev pub FollowsTo : Parts → List ℕ → Parts → List Entry → ℕ → Type 0
FollowsTo read named written journal last =
    (own cycle : ℕ) → own < length read.crafts → 1 ≤ cycle → cycle ≤ last → position written own cycle ≡ aim read named journal own cycle

-- ---- what is written

-- An encounter differs from the one that is read in the legs of the named aircraft alone. Each of these is needed.
pub record DiffersInLegs (read : Parts) (named : List ℕ) (written : Parts) : Type 0 where
  pub only_legs : written ≡ record read { legs = written.legs }
  pub others : (own : ℕ) → own < length read.crafts → is_named named own ≡ false → legs_of written own ≡ legs_of read own
  pub needed : (own : ℕ) → own < length read.crafts → is_named named own ≡ true → AreNeeded own read.cycles at_rest 0 (legs_of written own)

-- An encounter within all limits that differs in these legs alone, with its serial journal.
pub record IsPlayed (read : Parts) (named : List ℕ) (written : Parts) (journal : List Entry) : Type 0 where
  pub valid : IsEncounter written
  pub inside : IsInside written
  pub differs : DiffersInLegs read named written
  pub serial : IsSerial (air_of written) journal

-- In this encounter the named aircraft follow their own advice: that of its own serial journal.
pub record Follows (read : Parts) (named : List ℕ) (written : Parts) : Type 0 where
  pub journal : List Entry
  pub played : IsPlayed read named written journal
  pub places : FollowsTo read named written journal read.cycles

-- ---- where there is none

-- An aircraft can be at a place, and a leg can lead there from the place of the cycle before.
pub record CanGoOn (here there : Place) : Type 0 where
  pub boxed : IsInBox there
  pub rates : AreLegRates (change here there)

-- The flight leaves the limits: the box, or the rates of a leg. Up to the cycle before the aircraft of some encounter
-- follow their advice. In this cycle this aircraft can't go on to where it has to be, and those of lower index can.
pub record Leaves (read : Parts) (named : List ℕ) (own cycle : ℕ) : Type 0 where
  pub written : Parts
  pub journal : List Entry
  pub played : IsPlayed read named written journal
  pub begun : 2 ≤ cycle
  pub in_run : cycle ≤ read.cycles
  pub places : FollowsTo read named written journal (cycle - 1)
  pub craft : own < length read.crafts
  pub leaves : CanGoOn (position written own (cycle - 1)) (aim read named journal own cycle) → ⊥
  pub lower : (other : ℕ) → other < own → CanGoOn (position written other (cycle - 1)) (aim read named journal other cycle)
