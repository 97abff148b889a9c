-- What the aircraft of a journal advise: the first cycle with an advisory, and the senses of the first and of the last
-- advice of each aircraft.
use Rattle.std.specs.Prelude.{ℕ, zero, suc, Bool, true, false, if◌then◌else◌, List, length, find, Option, Some, None, is_some}
use Rattle.std.specs.List.{list_any, range_with_len}
use Rattle.acas_base.specs.Encounter.{Parts}
use Rattle.acas_base.specs.Messages.{has_advisory}
use Rattle.acas_base.specs.declared.advisory.Cells.{Cells}
use Rattle.acas_base.specs.declared.entry.Entry.{Entry}
use Rattle.advisory_report.specs.Composite.{shown}
use Rattle.advisory_report.specs.Phrases.{has_advice}
use Rattle.advisory_report.specs.declared.composite.Composite.{Composite}
use Rattle.air_journal.specs.Cells.{commit_cells}
use Rattle.outcomes.specs.declared.advised.Senses.{Senses}
use Rattle.outcomes.specs.declared.advised.Senses.TheVariants.{Neither, Up, Down, Both}

-- ---- the first advisory

-- Some cell of a commit is a resolution advisory.
abbrev pub has_some : Option Cells → Bool
has_some None = false
has_some (Some cells) = list_any has_advisory cells.list

-- Some of so many aircraft has one in a cycle.
abbrev pub some_has : List Entry → ℕ → ℕ → Bool
some_has journal crafts cycle = list_any (λ own. has_some (commit_cells journal own cycle)) (range_with_len 0 crafts)

-- The first cycle in which some aircraft has one.
abbrev pub first_cycle : Parts → List Entry → Option ℕ
first_cycle e journal = find (some_has journal (length e.crafts)) (range_with_len 1 e.cycles)

-- ---- the first and the last advice of an aircraft

-- What an aircraft shows after its commit of a cycle.
abbrev pub shown_in : List Entry → ℕ → ℕ → Composite
shown_in journal own cycle = shown (commit_cells journal own cycle)

-- Its composite has advice.
abbrev pub advises_in : List Entry → ℕ → ℕ → Bool
advises_in journal own cycle = has_advice (shown_in journal own cycle)

-- The last of the numbers from 1 on, up to this one, that passes a test.
abbrev pub last_where : (ℕ → Bool) → ℕ → Option ℕ
last_where test zero = None
last_where test (suc n) = if test (suc n) then Some (suc n) else last_where test n

-- The senses in which there is advice, up and down.
abbrev pub senses_for : Bool → Bool → Senses
senses_for true true = Both
senses_for true false = Up
senses_for false true = Down
senses_for false false = Neither

abbrev pub senses_of : Composite → Senses
senses_of composite = senses_for (is_some composite.up) (is_some composite.down)

abbrev pub senses_at : List Entry → ℕ → Option ℕ → Senses
senses_at journal own None = Neither
senses_at journal own (Some cycle) = senses_of (shown_in journal own cycle)

-- Those of an aircraft's first composite with advice, and of its last one; neither sense where it has no advice.
abbrev pub began : Parts → List Entry → ℕ → Senses
began e journal own = senses_at journal own (find (advises_in journal own) (range_with_len 1 e.cycles))

abbrev pub ended : Parts → List Entry → ℕ → Senses
ended e journal own = senses_at journal own (last_where (advises_in journal own) e.cycles)
