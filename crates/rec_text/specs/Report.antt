-- The report of a journal: what the crews see and hear, from commit to commit.
use Rattle.std.specs.Prelude.{◌≡◌, ℕ, ◌-◌, ◌<◌, List, [], length, slice_index_or, Option, Some, None, option_to_list}
use Rattle.std.specs.List.{flat_map, range_with_len}
use Rattle.acas_base.specs.Encounter.{Parts}
use Rattle.acas_base.specs.declared.advisory.Cells.{Cells}
use Rattle.acas_base.specs.declared.entry.Entry.{Entry}
use Rattle.advisory_report.specs.Composite.{clear, composite_of, shown}
use Rattle.advisory_report.specs.Report.{report_line}
use Rattle.advisory_report.specs.declared.composite.Composite.{Composite}
use Rattle.air_journal.specs.Airs.{address_of}
use Rattle.air_journal.specs.Cells.{commit_cells}

-- The line for a commit with these cells, where the report has one.
abbrev pub commit_report : ℕ → ℕ → Composite → Option Cells → List (List ℕ)
commit_report cycle address before None = []
commit_report cycle address before (Some cells) = option_to_list (report_line cycle address before (composite_of cells))

-- What an aircraft shows after its commit of a cycle.
abbrev pub shown_in : List Entry → ℕ → ℕ → Composite
shown_in journal cycle own = shown (commit_cells journal own cycle)

-- The line for an aircraft's commit of a cycle. It depends on what the aircraft showed after the cycle before.
abbrev pub report_of : Parts → List Entry → ℕ → ℕ → List (List ℕ)
report_of e journal cycle own = commit_report cycle (address_of e own) (shown_in journal (cycle - 1) own) (commit_cells journal own cycle)

-- The lines of a cycle, by index.
abbrev pub report_in : Parts → List Entry → ℕ → List (List ℕ)
report_in e journal cycle = flat_map (report_of e journal cycle) (range_with_len 0 (length e.crafts))

-- All lines, by cycle.
unfoldable pub report_lines : Parts → List Entry → List (List ℕ)
report_lines e journal = flat_map (report_in e journal) (range_with_len 1 e.cycles)

-- What each of `count` aircraft shows after its commit of a cycle.
abbrev pub AreShown : List Entry → ℕ → ℕ → List Composite → Type 0
AreShown journal cycle count composites = (own : ℕ) → own < count → slice_index_or composites own clear ≡ shown_in journal cycle own
