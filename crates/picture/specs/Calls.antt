-- The calls of a journal: what the crews hear, from commit to commit. They are those of the report of a recording.
use Rattle.std.specs.Prelude.{ℕ, ◌-◌, if◌then◌else◌, List, Option, Some, None}
use Rattle.acas_base.specs.declared.advisory.Cells.{Cells}
use Rattle.acas_base.specs.declared.entry.Entry.{Entry}
use Rattle.advisory_report.specs.Composite.{composite_of}
use Rattle.advisory_report.specs.Phrases.{aural_of}
use Rattle.advisory_report.specs.Report.{is_silent}
use Rattle.advisory_report.specs.declared.composite.Composite.{Composite}
use Rattle.air_journal.specs.Cells.{commit_cells}
use Rattle.picture.specs.Shown.{shown_in}
use Rattle.picture.specs.declared.call.Call.{Call}

-- The call, where something is said.
abbrev pub call_where : Call → Option Call
call_where call = if is_silent call.heard then None else Some call

abbrev pub call_with : ℕ → ℕ → Composite → Composite → Option Call
call_with cycle own before after = call_where (record { cycle = cycle; own = own; shown = after; heard = aural_of before after })

-- The call of a commit with these cells, if it has one.
abbrev pub call_from : ℕ → ℕ → Composite → Option Cells → Option Call
call_from cycle own before None = None
call_from cycle own before (Some cells) = call_with cycle own before (composite_of cells)

-- The call of an aircraft's commit of a cycle. It depends on what the aircraft showed after the cycle before.
unfoldable pub call_in : List Entry → ℕ → ℕ → Option Call
call_in journal cycle own = call_from cycle own (shown_in journal own (cycle - 1)) (commit_cells journal own cycle)
