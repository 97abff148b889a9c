-- An encounter whose aircraft fly along recorded tracks.
use Rattle.std.specs.Prelude.{◌≡◌, ℕ, ◌<◌, ◌≤◌, true, false, List, [], All, length, map, slice_index_or}
use Rattle.std.specs.List.{range_with_len}
use Rattle.acas_base.specs.Encounter.{Parts}
use Rattle.flight.specs.Flight.{position}
use Rattle.flight.specs.Inside.{IsInside}
use Rattle.flight.specs.declared.place.Place.{Place}
use Rattle.leg_rows.specs.Flights.{AreAlike, HasNeededLegs}
use Rattle.leg_rows.specs.Rows.{AreFlyable, IsFirstExcess}
use Rattle.track_file.specs.Track.{covers, rounded}
use Rattle.track_file.specs.declared.along.TrackFault.{TrackFault}
use Rattle.track_file.specs.declared.along.TrackFault.TheVariants.{Cover, Rate}
use Rattle.track_file.specs.declared.track.Point.{Point}

-- The rounded places of a track in the cycles of a run.
abbrev pub rounded_row : ℕ → List Point → List Place
rounded_row cycles points = map (rounded points) (range_with_len 1 cycles)

abbrev pub rounded_rows : ℕ → List (List Point) → List (List Place)
rounded_rows cycles tracks = map (rounded_row cycles) tracks

-- This encounter is like another one, but its aircraft fly along these tracks. Each leg of it is needed.
pub record FliesAlong (e like : Parts) (tracks : List (List Point)) : Type 0 where
  pub alike : AreAlike e like
  pub needed : HasNeededLegs e
  pub place : (craft cycle : ℕ) → craft < length like.crafts → 1 ≤ cycle → cycle ≤ like.cycles → position e craft cycle ≡ rounded (slice_index_or tracks craft []) cycle
  pub in_box : IsInside e

-- All tracks cover the run, and a leg can lead from each rounded place to the next.
pub record CanBeFlown (cycles : ℕ) (tracks : List (List Point)) : Type 0 where
  pub covered : All (λ points. covers points cycles ≡ true) tracks
  pub flyable : All AreFlyable (rounded_rows cycles tracks)

-- The aircraft at fault.
abbrev pub craft_at : TrackFault → ℕ
craft_at (Cover craft) = craft
craft_at (Rate craft cycle) = craft

-- The first aircraft, by its row, and its first cycle, from which no leg can lead to the next place.
abbrev pub IsFast : List (List Place) → TrackFault → Type 0
IsFast rows (Cover craft) = ⊥
IsFast rows (Rate craft cycle) =
    (craft < length rows) × IsFirstExcess (slice_index_or rows craft []) cycle × ((k : ℕ) → k < craft → AreFlyable (slice_index_or rows k []))

-- What is wrong with tracks. The track of an aircraft doesn't cover the run, and it is the first such track; or all do,
-- and no leg can lead from a rounded place to the next, of the first such aircraft in the first such cycle.
abbrev pub IsFaultOf : ℕ → List (List Point) → TrackFault → Type 0
IsFaultOf cycles tracks (Cover craft) =
    (craft < length tracks) × (covers (slice_index_or tracks craft []) cycles ≡ false)
    × ((k : ℕ) → k < craft → covers (slice_index_or tracks k []) cycles ≡ true)
IsFaultOf cycles tracks (Rate craft cycle) =
    All (λ points. covers points cycles ≡ true) tracks × IsFast (rounded_rows cycles tracks) (Rate craft cycle)
