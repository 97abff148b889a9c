-- What an aircraft keeps from cycle to cycle.
use Rattle.std.specs.Prelude.{◌≡◌, ℕ, ◌<◌, ◌≤◌, ◌==◌, if◌then◌else◌, IsTrue, List, slice_index_or}
use Rattle.acas_base.specs.Encounter.{Parts, is_active_at}
use Rattle.acas_base.specs.declared.TheConstants.{CRAFTS}
use Rattle.acas_num.specs.declared.track.TrackState.{TrackState}
use Rattle.craft_view.specs.Sight.{sight_of}
use Rattle.craft_view.specs.KnownTracks.{no_tracks, own_track, tracks_of}
use Rattle.craft_view.specs.declared.tracks.Tracks.{Tracks}
use Rattle.flight.specs.Inside.{IsInside}
use Rattle.sens_table.specs.Above.{above_of}
use Rattle.sens_table.specs.declared.above.Above.{Above}

-- Its own index, the cycle of its newest look, the bounds that it is above, the track of its own altitude, and the tracks
-- of the others by index.
pub record Kept : Type 0 where
  pub own : ℕ
  pub cycle : ℕ
  pub above : Above
  pub altitude : TrackState
  pub tracks : List Tracks

-- The aircraft at an index is there, and advises.
abbrev pub IsActive : Parts → ℕ → Type 0
IsActive e own = IsTrue (is_active_at e.crafts own)

-- The tracks kept of the aircraft at an index.
abbrev pub kept_of : Kept → ℕ → Tracks
kept_of kept index = slice_index_or kept.tracks index no_tracks

-- What is kept belongs to an encounter: all aircraft stay inside the box, own aircraft is active, the cycle is one of
-- the run (or 0, before the first), the bounds are those that it is above by its altitudes up to the cycle, and each track
-- is that of all that was measured up to the cycle.
pub record Belongs (e : Parts) (kept : Kept) : Type 0 where
  pub inside : IsInside e
  pub active : IsActive e kept.own
  pub cycle : kept.cycle ≤ e.cycles
  pub above : kept.above ≡ above_of e.profile e.elevation (sight_of e kept.own kept.cycle).own
  pub altitude : kept.altitude ≡ own_track (sight_of e kept.own kept.cycle)
  pub tracks : (index : ℕ) → index < CRAFTS → kept_of kept index ≡ tracks_of (sight_of e kept.own kept.cycle) index

-- The altitude track of the aircraft at an index; in the own place that of own altitude.
abbrev pub altitude_kept : Kept → ℕ → TrackState
altitude_kept kept index = if index == kept.own then kept.altitude else (kept_of kept index).altitude
