-- What an aircraft shows in each cycle, and its rows of cycles with the same word and the same corrective mark.
use Rattle.std.specs.Prelude.{ℕ, ◌+◌, Bool, true, false, not, ◌&&◌, List}
use Rattle.acas_base.specs.declared.entry.Entry.{Entry}
use Rattle.advisory_report.specs.Composite.{shown}
use Rattle.advisory_report.specs.Phrases.{is_clear}
use Rattle.advisory_report.specs.Report.{is_same_word}
use Rattle.advisory_report.specs.declared.composite.Composite.{Composite}
use Rattle.air_journal.specs.Cells.{commit_cells}
use Rattle.equal_rows.specs.Rows.{rows_of}
use Rattle.equal_rows.specs.declared.row.Row.{Row}

-- What an aircraft shows after the commit of a cycle; nothing where it hasn't committed it.
unfoldable pub shown_in : List Entry → ℕ → ℕ → Composite
shown_in journal own cycle = shown (commit_cells journal own cycle)

-- It shows traffic or advice.
abbrev pub is_shown : List Entry → ℕ → ℕ → Bool
is_shown journal own cycle = not (is_clear (shown_in journal own cycle))

abbrev pub is_same_mark : Bool → Bool → Bool
is_same_mark true other = other
is_same_mark false other = not other

-- The same word of the report, and both corrective or neither.
unfoldable pub is_alike : Composite → Composite → Bool
is_alike one other = is_same_word one other && is_same_mark one.corrective other.corrective

-- The next cycle shows the same.
abbrev pub goes_on : List Entry → ℕ → ℕ → Bool
goes_on journal own cycle = is_alike (shown_in journal own cycle) (shown_in journal own (cycle + 1))

-- The rows of an aircraft, in order.
abbrev pub shown_rows : List Entry → ℕ → ℕ → List Row
shown_rows journal cycles own = rows_of (is_shown journal own) (goes_on journal own) cycles
