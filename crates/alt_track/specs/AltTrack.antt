-- The altitude track: a track of an altitude, measured in whole feet.
use Rattle.std.specs.Prelude.{ℤ, List, Option}
use Rattle.acas_base.specs.declared.craft.Gains.{Gains}
use Rattle.acas_num.specs.declared.track.TrackState.{TrackState}
use Rattle.acas_num.specs.Tracks.{altitude_limits, step, track}

-- One second: an altitude in feet, or a miss.
abbrev pub altitude_step : Gains → TrackState → Option ℤ → TrackState
altitude_step gains state feet = step altitude_limits gains.alpha gains.beta state feet

-- The state after all altitudes and misses of a list, the newest first.
abbrev pub altitude_track : Gains → List (Option ℤ) → TrackState
altitude_track gains ms = track altitude_limits gains.alpha gains.beta ms
