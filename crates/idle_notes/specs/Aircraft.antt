-- Aircraft that can't advise, or see nobody, or are below the ground.
use Rattle.std.specs.Prelude.{ℕ, ◌==◌, ◌&&◌, ◌||◌, nat_lt, Bool, int_lt, List, length, find, Option, is_none}
use Rattle.std.specs.List.{list_all, range_with_len}
use Rattle.acas_base.specs.Encounter.{Parts, is_active_at}
use Rattle.flight.specs.Approach.{range_between}
use Rattle.flight.specs.Measurement.{longest, own_altitude}
use Rattle.idle_notes.specs.Messages.{is_ra_at}
use Rattle.sens_table.specs.Run.{level_in}

-- In a cycle an aircraft has a level without resolution advisories.
abbrev pub is_low_in : Parts → ℕ → ℕ → Bool
is_low_in e craft cycle = is_none (level_in e craft cycle).ra

-- An aircraft of kind RA is so near the ground in each cycle of the run.
abbrev pub is_low : Parts → ℕ → Bool
is_low e craft = is_ra_at e.crafts craft && list_all (is_low_in e craft) (range_with_len 1 e.cycles)

-- In a cycle two aircraft are too far apart to be measured.
abbrev pub is_far_in : Parts → ℕ → ℕ → ℕ → Bool
is_far_in e craft other cycle = nat_lt longest (range_between e craft other cycle)

-- It is another aircraft only where the indices differ.
abbrev pub is_far_from : Parts → ℕ → ℕ → Bool
is_far_from e craft other = other == craft || list_all (is_far_in e craft other) (range_with_len 1 e.cycles)

-- An active aircraft is so far from each other one in each cycle of the run.
abbrev pub is_alone : Parts → ℕ → Bool
is_alone e craft = is_active_at e.crafts craft && list_all (is_far_from e craft) (range_with_len 0 (length e.crafts))

-- The first cycle of the run in which an aircraft is below the ground.
abbrev pub is_below_ground : Parts → ℕ → ℕ → Bool
is_below_ground e craft cycle = int_lt (own_altitude e craft cycle) e.elevation

abbrev pub first_below : Parts → ℕ → Option ℕ
first_below e craft = find (is_below_ground e craft) (range_with_len 1 e.cycles)
