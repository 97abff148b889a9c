-- The cells of the commits of a journal.
use Rattle.std.specs.Prelude.{ℕ, ◌+◌, ◌-◌, ◌*◌, ◌&&◌, ◌==◌, if◌then◌else◌, List, [], ◌∷◌, Option, Some, None, replicate}
use Rattle.acas_base.specs.declared.TheConstants.{CRAFTS}
use Rattle.acas_base.specs.declared.advisory.Cell.TheVariants.{Clear}
use Rattle.acas_base.specs.declared.advisory.Cells.{Cells}
use Rattle.acas_base.specs.declared.entry.Entry.{Entry}
use Rattle.acas_base.specs.declared.entry.Entry.TheVariants.{Commit, Send, Take}

abbrev pub clear_cells : Cells
clear_cells = record { list = replicate CRAFTS Clear }

-- The cells of the commit of an aircraft's cycle; none where it hasn't committed it.
abbrev pub commit_cells : List Entry → ℕ → ℕ → Option Cells
commit_cells [] craft of_cycle = None
commit_cells (Commit own cycle cells ∷ earlier) craft of_cycle = if own == craft && cycle == of_cycle then Some cells else commit_cells earlier craft of_cycle
commit_cells (Send own target number word ∷ earlier) craft of_cycle = commit_cells earlier craft of_cycle
commit_cells (Take own send copy good ∷ earlier) craft of_cycle = commit_cells earlier craft of_cycle

-- Where a commit stands in a list with a place for each cycle, from 1, and each aircraft that there can be.
abbrev pub place_of : ℕ → ℕ → ℕ
place_of own cycle = (cycle - 1) * CRAFTS + own
