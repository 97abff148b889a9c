-- Changes of sense, and equal senses, in the cells of a journal.
use Rattle.std.specs.Prelude.{ℕ, ◌-◌, Bool, false, not, ◌&&◌, cond, nat_lt, List, length, sum_by, Option, Some, None}
use Rattle.std.specs.List.{range_with_len}
use Rattle.acas_base.specs.Encounter.{Parts}
use Rattle.acas_base.specs.Senses.{has_sense, is_same_sense}
use Rattle.acas_base.specs.declared.advisory.Cell.{Cell}
use Rattle.acas_base.specs.declared.advisory.Cell.TheVariants.{Clear, Traffic, Ra}
use Rattle.acas_base.specs.declared.advisory.Cells.{Cells}
use Rattle.acas_base.specs.declared.advisory.Intent.{Intent}
use Rattle.acas_base.specs.declared.entry.Entry.{Entry}
use Rattle.air_journal.specs.Cells.{commit_cells}
use Rattle.air_rules.specs.Journal.{cell_at}
use Rattle.outcomes.specs.declared.events.Event.{Event}
use Rattle.outcomes.specs.declared.events.Event.TheVariants.{Turn, Reversal, Equal}

-- ---- cells

abbrev pub cell_of : Option Cells → ℕ → Cell
cell_of None other = Clear
cell_of (Some cells) other = cell_at cells other

-- The cell of an aircraft for another one in a cycle; Clear where it hasn't committed it.
abbrev pub cell_in : List Entry → ℕ → ℕ → ℕ → Cell
cell_in journal own other cycle = cell_of (commit_cells journal own cycle) other

-- ---- from a cell to the next one

-- From an advisory to one of the other sense.
abbrev pub is_change : Intent → Intent → Bool
is_change before now = not (is_same_sense before.sense now.sense)

-- The letter `r` is new: the sense was reversed geometrically.
abbrev pub is_new_r : Intent → Intent → Bool
is_new_r before now = now.turned && not before.turned

-- A change of sense without a new `r`, and with one.
abbrev pub is_turn : Cell → Cell → Bool
is_turn Clear now = false
is_turn Traffic now = false
is_turn (Ra before) Clear = false
is_turn (Ra before) Traffic = false
is_turn (Ra before) (Ra now) = is_change before now && not (is_new_r before now)

abbrev pub is_reversal : Cell → Cell → Bool
is_reversal Clear now = false
is_reversal Traffic now = false
is_reversal (Ra before) Clear = false
is_reversal (Ra before) Traffic = false
is_reversal (Ra before) (Ra now) = is_change before now && is_new_r before now

-- ---- two cells of a cycle

-- Both are advisories of one sense. So both aircraft are of kind RA.
abbrev pub have_one_sense : Cell → Cell → Bool
have_one_sense Clear other = false
have_one_sense Traffic other = false
have_one_sense (Ra advisory) other = has_sense other advisory.sense

-- ---- how often

-- Of an aircraft against another one in a cycle. Equal senses are those of two aircraft, and count for the one of lower
-- index.
abbrev pub happens : Event → List Entry → ℕ → ℕ → ℕ → Bool
happens Turn journal own other cycle = is_turn (cell_in journal own other (cycle - 1)) (cell_in journal own other cycle)
happens Reversal journal own other cycle = is_reversal (cell_in journal own other (cycle - 1)) (cell_in journal own other cycle)
happens Equal journal own other cycle = nat_lt own other && have_one_sense (cell_in journal own other cycle) (cell_in journal other own cycle)

-- In how many of the first so many cycles it happens, for an aircraft against another one.
abbrev pub times : Event → List Entry → ℕ → ℕ → ℕ → ℕ
times event journal own other cycles = sum_by (λ cycle. cond (happens event journal own other cycle) 1 0) (range_with_len 1 cycles)

-- For an aircraft against the first so many.
abbrev pub times_with : Event → List Entry → ℕ → ℕ → ℕ → ℕ
times_with event journal cycles own crafts = sum_by (λ other. times event journal own other cycles) (range_with_len 0 crafts)

-- For all aircraft against all.
abbrev pub times_in_all : Event → Parts → List Entry → ℕ
times_in_all event e journal = sum_by (λ own. times_with event journal e.cycles own (length e.crafts)) (range_with_len 0 (length e.crafts))
