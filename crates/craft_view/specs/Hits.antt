-- Both tests of an advisory.
use Rattle.std.specs.Prelude.{◌&&◌, Bool, ◌-ℤ◌}
use Rattle.acas_base.specs.declared.level.Row.{Row}
use Rattle.craft_view.specs.declared.motion.Motion.{Motion}
use Rattle.tau_test.specs.RangeTest.{is_range_hit}
use Rattle.vert_test.specs.AltTest.{is_altitude_hit}

-- Both tests hold with the thresholds of a row. Heights are the other's over own.
abbrev pub is_hit : Motion → Row → Bool
is_hit m row = is_range_hit m.range.est m.range.rate row && is_altitude_hit (m.target.est -ℤ m.own.est) (m.target.rate -ℤ m.own.rate) row
