-- The range track: a track of the slant range to one other aircraft, measured in whole feet.
use Rattle.std.specs.Prelude.{ℕ, pos, List, map, Option, option_map}
use Rattle.acas_base.specs.declared.craft.Gains.{Gains}
use Rattle.acas_num.specs.declared.track.TrackState.{TrackState}
use Rattle.acas_num.specs.Tracks.{range_limits, step, track}

-- One second: a range in feet, or a miss.
abbrev pub range_step : Gains → TrackState → Option ℕ → TrackState
range_step gains state feet = step range_limits gains.alpha gains.beta state (option_map pos feet)

-- The state after all ranges and misses of a list, the newest first.
abbrev pub range_track : Gains → List (Option ℕ) → TrackState
range_track gains ms = track range_limits gains.alpha gains.beta (map (option_map pos) ms)
