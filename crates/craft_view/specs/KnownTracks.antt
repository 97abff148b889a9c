-- The tracks that follow from what is known, and what they say where they run. Estimates are in 1/1024 ft, rates in
-- 1/1024 ft/s.
use Rattle.std.specs.Prelude.{ℕ, ◌≤◌, ◌^◌, ℤ, pos, unsigned_abs, List, [], ◌∷◌, map, Option, Some, None, option_map}
use Rattle.std.specs.Option.{option_and_then, option_map_or}
use Rattle.acas_base.specs.Encounter.{Parts}
use Rattle.acas_base.specs.Ranges.{IsBetween}
use Rattle.acas_base.specs.declared.craft.CraftSpec.{CraftSpec}
use Rattle.acas_base.specs.declared.setting.Profile.{Profile}
use Rattle.acas_base.specs.declared.setting.Profile.TheVariants as profiles
use Rattle.acas_num.specs.declared.track.TrackState.{TrackState}
use Rattle.acas_num.specs.declared.track.TrackState.TheVariants.{Empty, One, Run}
use Rattle.alt_track.specs.AltTrack.{altitude_step, altitude_track}
use Rattle.craft_view.specs.Sight.{Other, Sight, other_craft}
use Rattle.craft_view.specs.declared.motion.Estimate.{Estimate}
use Rattle.craft_view.specs.declared.motion.Motion.{Motion}
use Rattle.craft_view.specs.declared.tracks.Tracks.{Tracks}
use Rattle.flight.specs.Measurement.{measurement, own_altitude}
use Rattle.flight.specs.declared.measuring.Meas.{Meas}
use Rattle.range_track.specs.RangeTrack.{range_step, range_track}
use Rattle.square_track.specs.SquareTrack.{IsWithinLimits, measured_square, square_track, step}
use Rattle.square_track.specs.declared.measuring.MeasuredSquare.{MeasuredSquare}
use Rattle.square_track.specs.declared.state.SquareState.{SquareState}
use Rattle.square_track.specs.declared.state.SquareState.TheVariants as square

-- The track of own altitude, which is measured in every cycle.
abbrev pub own_track : Sight → TrackState
own_track s = altitude_track s.altitude (map (λ feet. Some feet) s.own)

abbrev pub range_seen : Option Meas → Option ℕ
range_seen meas = option_map (λ (m : Meas). m.range) meas

abbrev pub altitude_seen : Option Meas → Option ℤ
altitude_seen meas = option_map (λ (m : Meas). m.alt) meas

-- The square of the horizontal range, by what was measured in a cycle and own altitude in that cycle.
abbrev pub square_seen : ℤ → Option Meas → Option MeasuredSquare
square_seen own meas = option_map (λ (m : Meas). measured_square m.range m.alt own) meas

-- The same in each cycle, by own altitudes and what was measured, each the newest first.
abbrev pub squares_seen : List ℤ → List (Option Meas) → List (Option MeasuredSquare)
squares_seen [] seen = []
squares_seen (own ∷ owns) [] = []
squares_seen (own ∷ owns) (meas ∷ seen) = square_seen own meas ∷ squares_seen owns seen

-- The track of the square. In profile 1 nothing follows it.
abbrev pub square_by : Profile → List ℤ → List (Option Meas) → SquareState
square_by profiles.One owns seen = square.Empty
square_by profiles.Two owns seen = square_track (squares_seen owns seen)

-- The tracks of all that was measured of another aircraft.
abbrev pub tracks_by : Sight → List (Option Meas) → Tracks
tracks_by s seen = record {
  range = range_track s.range (map range_seen seen);
  altitude = altitude_track s.altitude (map altitude_seen seen);
  square = square_by s.profile s.own seen;
}

abbrev pub no_tracks : Tracks
no_tracks = record { range = Empty; altitude = Empty; square = square.Empty }

-- The tracks of the aircraft at an index: empty ones in the own place and past the last aircraft.
abbrev pub tracks_of : Sight → ℕ → Tracks
tracks_of s index = option_map_or (λ (other : Other). tracks_by s other.seen) (s.others index) no_tracks

-- The track of the square one second later.
abbrev pub square_after : Profile → SquareState → Option MeasuredSquare → SquareState
square_after profiles.One state seen = state
square_after profiles.Two state seen = step state seen

-- One second later: after one more measurement, or a miss, at this own altitude.
abbrev pub tracks_after : Parts → ℤ → Tracks → Option Meas → Tracks
tracks_after e own tracks meas = record {
  range = range_step e.range tracks.range (range_seen meas);
  altitude = altitude_step e.altitude tracks.altitude (altitude_seen meas);
  square = square_after e.profile tracks.square (square_seen own meas);
}

-- The tracks of the aircraft at an index after one more cycle, where it is another one.
abbrev pub tracks_then : Parts → ℕ → ℕ → ℕ → Tracks → Tracks
tracks_then e own cycle index tracks =
    option_map_or (λ (craft : CraftSpec). tracks_after e (own_altitude e own cycle) tracks (measurement e own index cycle)) (other_craft e own index) tracks

-- The estimate and the rate of a track that runs.
abbrev pub running : TrackState → Option Estimate
running Empty = None
running (One est) = None
running (Run est rate missed) = Some (record { est = est; rate = rate })

-- The pair is tested where three tracks run: own altitude, the range, and the other's altitude.
abbrev pub motion_of : TrackState → Tracks → Option Motion
motion_of own tracks =
    option_and_then (λ (mine : Estimate). option_and_then (λ (range : Estimate). option_map (λ (target : Estimate). record { own = mine; range = range; target = target; square = tracks.square })
    (running tracks.altitude)) (running tracks.range)) (running own)

-- How large the estimates and rates of altitudes and ranges are.
pub record IsAltitudeEstimate (e : Estimate) : Type 0 where
  pub est : unsigned_abs e.est ≤ 2 ^ 26
  pub rate : unsigned_abs e.rate ≤ 2 ^ 18

pub record IsRangeEstimate (e : Estimate) : Type 0 where
  pub est : IsBetween (pos 0) (pos (2 ^ 28)) e.est
  pub rate : unsigned_abs e.rate ≤ 2 ^ 22

pub record IsMotion (m : Motion) : Type 0 where
  pub own : IsAltitudeEstimate m.own
  pub range : IsRangeEstimate m.range
  pub target : IsAltitudeEstimate m.target
  pub square : IsWithinLimits m.square
