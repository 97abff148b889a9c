-- How many seconds the tests of a pair need, with the thresholds of own aircraft.
use Rattle.std.specs.Prelude.{◌-ℤ◌, unsigned_abs, option_map}
use Rattle.acas_base.specs.declared.level.Row.{Row}
use Rattle.craft_view.specs.declared.motion.Motion.{Motion}
use Rattle.craft_view.specs.declared.own.OwnAircraft.{OwnAircraft}
use Rattle.test_seconds.specs.Seconds.{altitude_seconds, range_seconds}
use Rattle.test_seconds.specs.declared.pair.PairSeconds.{PairSeconds}
use Rattle.test_seconds.specs.declared.pair.TestSeconds.{TestSeconds}

-- What both tests need with the thresholds of a row, by what the tracks say.
unfoldable pub seconds_of : Motion → Row → TestSeconds
seconds_of m row = record {
  range = range_seconds m.range.est m.range.rate row;
  altitude = altitude_seconds (m.target.est -ℤ m.own.est) (m.target.rate -ℤ m.own.rate) row;
  tau = unsigned_abs row.tau;
}

-- What a traffic advisory needs, and what a resolution advisory needs, where own aircraft has thresholds of one.
abbrev pub pair_seconds : OwnAircraft → Motion → PairSeconds
pair_seconds own m = record { ta = seconds_of m own.level.ta; ra = option_map (seconds_of m) own.resolution }
