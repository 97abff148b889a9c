-- The replies that an encounter plans to be missed.
use Rattle.std.specs.Prelude.{ℕ, Bool, ◌&&◌, nat_le, List, map}
use Rattle.std.specs.List.{list_any, range_with_len}
use Rattle.acas_base.specs.Encounter.{Parts, is_active_at}
use Rattle.acas_base.specs.declared.craft.CraftSpec.{CraftSpec}
use Rattle.acas_base.specs.declared.craft.Miss.{Miss}
use Rattle.flight.specs.Measurement.{is_missed}

-- An active aircraft gets no reply from another one in a cycle.
abbrev pub misses_reply : Parts → ℕ → ℕ → ℕ → Bool
misses_reply e own target cycle = is_active_at e.crafts own && is_missed e own target cycle

-- The flags say in which cycles of the run.
abbrev pub missed_of : Parts → ℕ → ℕ → List Bool
missed_of e own target = map (misses_reply e own target) (range_with_len 1 e.cycles)

-- A miss of an active aircraft begins within the run.
abbrev pub is_miss_of_run : List CraftSpec → ℕ → Miss → Bool
is_miss_of_run crafts cycles miss = is_active_at crafts miss.own && nat_le miss.from cycles

abbrev pub has_misses : Parts → Bool
has_misses e = list_any (is_miss_of_run e.crafts e.cycles) e.misses
