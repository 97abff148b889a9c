-- The altitudes that are kept before the first line is told, by cycle and aircraft.
use Rattle.std.specs.Prelude.{◌≡◌, ℕ, ◌<◌, ◌≤◌, ℤ, List, length, Option, None, slice_index_or}
use Rattle.acas_base.specs.Encounter.{Parts}
use Rattle.acas_base.specs.declared.entry.Entry.{Entry}
use Rattle.air_journal.specs.Cells.{place_of}
use Rattle.journal_tables.specs.Places.{modelled_altitude}

-- The altitude of an aircraft in a cycle stands in its place.
abbrev pub IsNoted : Parts → List Entry → List (Option ℤ) → ℕ → ℕ → Type 0
IsNoted e journal altitudes craft cycle = slice_index_or altitudes (place_of craft cycle) None ≡ modelled_altitude e journal craft cycle

-- Those of the first so many aircraft do, in all cycles, and those of the next one in the first so many cycles.
pub record AreNoted (e : Parts) (journal : List Entry) (crafts cycles : ℕ) (altitudes : List (Option ℤ)) : Type 0 where
  pub size : length altitudes ≡ 9600
  pub whole : (craft cycle : ℕ) → craft < crafts → 1 ≤ cycle → cycle ≤ e.cycles → IsNoted e journal altitudes craft cycle
  pub begun : (cycle : ℕ) → 1 ≤ cycle → cycle ≤ cycles → IsNoted e journal altitudes crafts cycle
