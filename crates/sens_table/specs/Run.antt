-- The bounds that an aircraft is above in a cycle of its run, and its level.
use Rattle.std.specs.Prelude.{ℕ}
use Rattle.acas_base.specs.Encounter.{Parts}
use Rattle.acas_base.specs.declared.level.Level.{Level}
use Rattle.flight.specs.Measurement.{newest_first, own_altitude}
use Rattle.sens_table.specs.Above.{above_of, level_of}
use Rattle.sens_table.specs.declared.above.Above.{Above}

-- They follow from its altitudes up to the cycle.
abbrev pub above_in : Parts → ℕ → ℕ → Above
above_in e craft cycle = above_of e.profile e.elevation (newest_first (own_altitude e craft) cycle)

-- Its sensitivity level.
abbrev pub level_in : Parts → ℕ → ℕ → Level
level_in e craft cycle = level_of (above_in e craft cycle)
