-- What holds of the list of calls.
use Rattle.std.specs.Prelude.{◌≡◌, ℕ, ◌+◌, ◌-◌, ◌<◌, ◌≤◌, true, false, List, Some, None}
use Rattle.std.specs.List.{AllByRecursion}
use Rattle.acas_base.specs.Encounter.{Parts}
use Rattle.acas_base.specs.declared.advisory.Cells.{Cells}
use Rattle.acas_base.specs.declared.entry.Entry.{Entry}
use Rattle.advisory_report.specs.Composite.{composite_of}
use Rattle.advisory_report.specs.Phrases.{aural_of, phrase_text}
use Rattle.advisory_report.specs.Report.{line_text, report_line}
use Rattle.advisory_report.specs.declared.aural.Aural.TheVariants.{Silent}
use Rattle.air_journal.specs.Cells.{commit_cells}
use Rattle.labels.specs.Labels.{LabelWords}
use Rattle.page_marks.specs.Within.{Bounds, IsMarkWithin}
use Rattle.picture.specs.Calls.{call_in}
use Rattle.picture.specs.Gathered.{count_equal, has_equal, is_equal, line_in}
use Rattle.picture.specs.Heard.{heard_marks}
use Rattle.picture.specs.Shown.{shown_in}
use Rattle.picture.specs.declared.call.Call.{Call}
use Rattle.picture.specs.declared.gathered.CallLine.{CallLine}
use Rattle.svg_text.specs.Fitting.{FitsMark}

-- A call is of the cycle and the aircraft. The report has a line for the commit, from what the aircraft showed before to
-- what it shows now, and the call is what is heard then.
pub record IsReported (journal : List Entry) (cycle own : ℕ) (call : Call) : Type 0 where
  pub cycle_is : call.cycle ≡ cycle
  pub own_is : call.own ≡ own
  pub heard_is : call.heard ≡ aural_of (shown_in journal own (cycle - 1)) call.shown
  pub line_is : (address : ℕ) → report_line cycle address (shown_in journal own (cycle - 1)) call.shown ≡ Some (line_text cycle address (shown_in journal own (cycle - 1)) call.shown)

-- A commit has a call, which is that of the report, or the phrase of the report is `-`.
pub record AreReported (journal : List Entry) : Type 0 where
  pub call_is : (cycle own : ℕ) (call : Call) → call_in journal cycle own ≡ Some call → IsReported journal cycle own call
  pub silent : (cycle own : ℕ) (cells : Cells) → commit_cells journal own cycle ≡ Some cells → call_in journal cycle own ≡ None → phrase_text (aural_of (shown_in journal own (cycle - 1)) (composite_of cells)) ≡ phrase_text Silent

-- A line tells of an aircraft's call of the cycle. Of up to 4 aircraft it stands for this call alone. Of more no
-- aircraft of lower index has an equal call in the cycle, and the line stands for all equal ones.
pub record IsLineOf (journal : List Entry) (count cycle own : ℕ) (line : CallLine) : Type 0 where
  pub call_is : call_in journal cycle own ≡ Some line.call
  pub alone : count ≤ 4 → line.calls ≡ 1
  pub first : 4 < count → (other : ℕ) → other < own → has_equal journal line.call other ≡ false
  pub all : 4 < count → line.calls ≡ count_equal journal line.call count

-- A call is told by a line: its own, or that of an equal call of an aircraft of lower index.
pub record IsTold (journal : List Entry) (count cycle own : ℕ) (call : Call) : Type 0 where
  pub other : ℕ
  pub line : CallLine
  pub no_higher : other ≤ own
  pub line_is : line_in journal count cycle other ≡ Some line
  pub equal : is_equal call line.call ≡ true

-- Each line is one of these, and each call is told.
pub record AreLines (journal : List Entry) (count : ℕ) : Type 0 where
  pub each : (cycle own : ℕ) (line : CallLine) → line_in journal count cycle own ≡ Some line → IsLineOf journal count cycle own line
  pub told : (cycle own : ℕ) (call : Call) → call_in journal cycle own ≡ Some call → IsTold journal count cycle own call

-- The part of the page below a top that the list has, to the right of the plan.
abbrev pub list_from : ℕ → Bounds
list_from top = record { left = 8800; top = top; right = 19600; bottom = top + 6600 }

abbrev pub AreInList : ℕ → Parts → List Entry → LabelWords → Type 0
AreInList top e journal labels = AllByRecursion (λ mark. IsMarkWithin (list_from top) mark × FitsMark mark) (heard_marks top e journal labels)
