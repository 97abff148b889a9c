-- The legs of all aircraft of an encounter.
use Rattle.std.specs.Prelude.{◌*ℤ◌, ◌≡◌, ℕ, ◌+◌, ◌<◌, ◌≤◌, pos, List, [], ◌∷◌, ◌++◌, All, length, map, slice_index_or}
use Rattle.std.specs.Int.{int_div_euclid}
use Rattle.acas_base.specs.Encounter.{Parts, encounter_of, setting_of}
use Rattle.acas_base.specs.declared.craft.CraftSpec.{CraftSpec}
use Rattle.acas_base.specs.declared.craft.Leg.{Leg}
use Rattle.flight.specs.Flight.{legs_of, position, start_of}
use Rattle.flight.specs.Inside.{IsInBox}
use Rattle.flight.specs.declared.place.Place.{Place}
use Rattle.leg_rows.specs.Rows.{AreFlyable, AreNeeded, at_rest, legs_through, place_of}

-- The legs of aircraft from an index on, each through its places.
abbrev pub legs_from : ℕ → List (List Place) → List Leg
legs_from craft [] = []
legs_from craft (places ∷ rows) = legs_through craft places ++ legs_from (craft + 1) rows

-- The legs of all aircraft. A row has the places of one aircraft.
unfoldable pub legs_of_all : List (List Place) → List Leg
legs_of_all rows = legs_from 0 rows

-- A row for each aircraft, with a place for each cycle of the run. Each aircraft begins at the first place of its row.
pub record AreRows (e : Parts) (rows : List (List Place)) : Type 0 where
  pub count : length rows ≡ length e.crafts
  pub long : All (λ places. length places ≡ e.cycles) rows
  pub start : (craft : ℕ) (d : CraftSpec) → craft < length rows → start_of (slice_index_or e.crafts craft d) ≡ place_of (slice_index_or rows craft []) 1

-- An aircraft begins at whole feet.
abbrev pub IsWholeFoot : Place → Type 0
IsWholeFoot place = pos 60 *ℤ int_div_euclid place.z (pos 60) ≡ place.z

-- Rows through which the aircraft of an encounter can fly: one for each, with a place in the box for each cycle of the
-- run, the first at whole feet. A leg can lead from each place to the next.
pub record CanFly (e : Parts) (rows : List (List Place)) : Type 0 where
  pub count : length rows ≡ length e.crafts
  pub long : All (λ places. length places ≡ e.cycles) rows
  pub boxed : All (All IsInBox) rows
  pub feet : All (λ places. IsWholeFoot (place_of places 1)) rows
  pub flyable : All AreFlyable rows

-- An aircraft that begins at a place.
abbrev pub at_place : CraftSpec → Place → CraftSpec
at_place craft place = record {
  address = craft.address;
  kind = craft.kind;
  x = place.x;
  y = place.y;
  alt = int_div_euclid place.z (pos 60);
  ceiling = craft.ceiling;
}

-- The aircraft, each at the first place of its row.
abbrev pub crafts_at : List CraftSpec → List (List Place) → List CraftSpec
crafts_at [] rows = []
crafts_at (craft ∷ crafts) [] = []
crafts_at (craft ∷ crafts) (places ∷ rows) = at_place craft (place_of places 1) ∷ crafts_at crafts rows

-- Each leg of an encounter is needed. No leg has the rates of the leg before it, and an aircraft's first leg isn't a
-- leg of rest. All legs begin before the last cycle.
abbrev pub HasNeededLegs : Parts → Type 0
HasNeededLegs e = (craft : ℕ) → craft < length e.crafts → AreNeeded craft e.cycles at_rest 0 (legs_of e craft)

-- What an aircraft is, wherever it is in cycle 1.
abbrev pub unplaced : CraftSpec → CraftSpec
unplaced craft = record { address = craft.address; kind = craft.kind; x = pos 0; y = pos 0; alt = pos 0; ceiling = craft.ceiling }

-- Two encounters differ in nothing but where the aircraft begin and how they fly.
pub record AreAlike (d e : Parts) : Type 0 where
  pub version : d.version ≡ e.version
  pub profile : d.profile ≡ e.profile
  pub cycles : d.cycles ≡ e.cycles
  pub terrain : d.elevation ≡ e.elevation
  pub range : d.range ≡ e.range
  pub altitude : d.altitude ≡ e.altitude
  pub name : d.name ≡ e.name
  pub clock : d.clock ≡ e.clock
  pub calls : d.calls ≡ e.calls
  pub crafts : map unplaced d.crafts ≡ map unplaced e.crafts
  pub misses : d.misses ≡ e.misses
  pub plans : d.plans ≡ e.plans
  pub fates : d.fates ≡ e.fates

-- Each aircraft is at one place in both, in each cycle of the run.
abbrev pub FlyAlike : Parts → Parts → Type 0
FlyAlike d e = (craft cycle : ℕ) → craft < length e.crafts → 1 ≤ cycle → cycle ≤ e.cycles → position d craft cycle ≡ position e craft cycle

-- The encounter that is like another one, but whose aircraft fly through these rows.
abbrev pub flown_by : Parts → List (List Place) → Parts
flown_by e rows = encounter_of (setting_of e) e.calls (crafts_at e.crafts rows) (legs_of_all rows) e.misses e.plans e.fates

-- This encounter is like another one, but its aircraft fly through these rows, each leg of it being needed.
pub record FliesThrough (e like : Parts) (rows : List (List Place)) : Type 0 where
  pub alike : AreAlike e like
  pub needed : HasNeededLegs e
  pub place : (craft cycle : ℕ) → craft < length like.crafts → 1 ≤ cycle → cycle ≤ like.cycles → position e craft cycle ≡ place_of (slice_index_or rows craft []) cycle
