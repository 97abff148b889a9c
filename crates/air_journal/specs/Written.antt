-- The journal as it is kept.
use Rattle.std.specs.Prelude.{ℕ, ◌+◌, ◌-◌, ◌*◌, ◌<◌, ◌≤◌, List, All, map, reverse, slice_index_or}
use Rattle.acas_base.specs.declared.advisory.Cells.{Cells}
use Rattle.acas_base.specs.declared.entry.Entry.{Entry}
use Rattle.acas_base.specs.declared.entry.Entry.TheVariants as entries
use Rattle.air_journal.specs.Cells.{clear_cells}
use Rattle.air_journal.specs.declared.log.Note.{Note}
use Rattle.air_journal.specs.declared.log.Note.TheVariants.{Commit, Send, Take}

-- The entries, the newest first; for how many there is room; and of how many aircraft, and for how many commits.
pub record Written : Type 0 where
  pub entries : List Entry
  pub room : ℕ
  pub crafts : ℕ
  pub places : ℕ

-- Where the cells of a commit stand in a table of so many aircraft: by cycle, from 1, and aircraft.
abbrev pub place_in : ℕ → ℕ → ℕ → ℕ
place_in crafts own cycle = (cycle - 1) * crafts + own

-- The entry that a note tells, with the cells of a commit from the table of so many aircraft.
abbrev pub told : ℕ → List Cells → Note → Entry
told crafts table (Commit own cycle) = entries.Commit own cycle (slice_index_or table (place_in crafts own cycle) clear_cells)
told crafts table (Send own target number word) = entries.Send own target number word
told crafts table (Take own send copy good) = entries.Take own send copy good

abbrev pub entries_in : ℕ → List Cells → List Note → List Entry
entries_in crafts table notes = map (told crafts table) (reverse notes)

-- The cells of a commit stand in a table of so many aircraft with `places` places.
abbrev pub IsNote : ℕ → ℕ → Note → Type 0
IsNote crafts places (Commit own cycle) = (own < crafts) × (1 ≤ cycle) × (place_in crafts own cycle < places)
IsNote crafts places (Send own target number word) = Unit {0}
IsNote crafts places (Take own send copy good) = Unit {0}

abbrev pub AreNotes : ℕ → ℕ → List Note → Type 0
AreNotes crafts places notes = All (IsNote crafts places) notes
