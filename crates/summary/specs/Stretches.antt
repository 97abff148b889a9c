-- The stretches of an aircraft against another one: the longest rows of its commits in which it shows traffic, or
-- advice of one sense and strength. A journal stands with its newest entry first.
use Rattle.std.specs.Prelude.{ℕ, zero, suc, ◌+◌, ◌-◌, ◌≤◌, Bool, true, false, not, ◌&&◌, ◌==◌, if◌then◌else◌, List, [], ◌∷◌, ◌++◌, Option, Some, None, option_map}
use Rattle.std.specs.Option.{option_and_then}
use Rattle.acas_base.specs.Senses.{is_same_sense}
use Rattle.acas_base.specs.declared.advisory.Cell.{Cell}
use Rattle.acas_base.specs.declared.advisory.Cell.TheVariants.{Clear, Traffic, Ra}
use Rattle.acas_base.specs.declared.advisory.Cells.{Cells}
use Rattle.acas_base.specs.declared.advisory.Vrc.{Vrc}
use Rattle.acas_base.specs.declared.advisory.Vrc.TheVariants.{Nil, NotBelow, NotAbove}
use Rattle.acas_base.specs.declared.entry.Entry.{Entry}
use Rattle.acas_base.specs.declared.entry.Entry.TheVariants.{Commit, Send, Take}
use Rattle.advisory_report.specs.Composite.{is_same_strength}
use Rattle.air_journal.specs.Cells.{commit_cells}
use Rattle.air_rules.specs.Air.{Air}
use Rattle.air_rules.specs.Journal.{cell_at, last_cell}
use Rattle.air_rules.specs.Takes.{Taken, complement_from, last_take}
use Rattle.journal_reader.specs.Reading.{taken_at}
use Rattle.summary.specs.declared.told.Told.{Told}
use Rattle.summary.specs.declared.rows.Start.{Start}

-- ---- what is shown

abbrev pub cell_of : Option Cells → ℕ → Cell
cell_of None other = Clear
cell_of (Some cells) other = cell_at cells other

-- The cell of an aircraft for another one in a cycle; Clear where it hasn't committed it.
abbrev pub cell_in : List Entry → ℕ → ℕ → ℕ → Cell
cell_in journal own other cycle = cell_of (commit_cells journal own cycle) other

abbrev pub is_clear : Cell → Bool
is_clear Clear = true
is_clear Traffic = false
is_clear (Ra advisory) = false

-- Nothing, traffic, or advice of the same sense and strength, in both.
abbrev pub is_same_shown : Cell → Cell → Bool
is_same_shown Clear Clear = true
is_same_shown Clear Traffic = false
is_same_shown Clear (Ra other) = false
is_same_shown Traffic Clear = false
is_same_shown Traffic Traffic = true
is_same_shown Traffic (Ra other) = false
is_same_shown (Ra one) Clear = false
is_same_shown (Ra one) Traffic = false
is_same_shown (Ra one) (Ra other) = is_same_sense one.sense other.sense && is_same_strength one.strength other.strength

-- A stretch begins with a commit that shows something, and not the same as the commit before it.
abbrev pub begins : Cell → Cell → Bool
begins before now = not (is_clear now) && not (is_same_shown before now)

-- ---- the message in force

-- The positions of the send and of the take of a message.
abbrev pub told_from : Taken → ℕ → Told
told_from taken at = record { sent_at = taken.send; taken_at = at }

-- The same, where a complement is in force.
abbrev pub told_by : Vrc → Option Taken → Option ℕ → Option Told
told_by Nil taken at = None
told_by NotBelow taken at = option_and_then (λ (t : Taken). option_map (told_from t) at) taken
told_by NotAbove taken at = option_and_then (λ (t : Taken). option_map (told_from t) at) taken

-- The message whose complement is in force on an aircraft from another one: that of the last good take.
unfoldable pub told_of : Air → List Entry → ℕ → ℕ → Option Told
told_of air journal own other = told_by (complement_from air journal own other) (last_take air journal own other) (taken_at journal own other)

-- ---- the stretches

-- A stretch begins in this cycle, and this message was in force before the commit.
abbrev pub start_of : Air → List Entry → ℕ → ℕ → ℕ → Start
start_of air earlier own other cycle = record { cycle = cycle; told = told_of air earlier own other }

abbrev pub starts_with : Air → List Entry → ℕ → ℕ → ℕ → Cells → List Start
starts_with air earlier own other cycle cells =
    if begins (last_cell earlier own other) (cell_at cells other) then start_of air earlier own other cycle ∷ [] else []

-- Where the stretches of an aircraft against another one begin, in order.
unfoldable pub starts_of : Air → List Entry → ℕ → ℕ → List Start
starts_of air [] craft other = []
starts_of air (Commit own cycle cells ∷ earlier) craft other =
    if own == craft then starts_of air earlier craft other ++ starts_with air earlier craft other cycle cells else starts_of air earlier craft other
starts_of air (Send own target number word ∷ earlier) craft other = starts_of air earlier craft other
starts_of air (Take own send copy good ∷ earlier) craft other = starts_of air earlier craft other

-- The last cycle up to which a test stays the same from each cycle to the next one, of so many cycles after this one.
abbrev pub lasts : (ℕ → Bool) → ℕ → ℕ → ℕ
lasts goes_on cycle zero = cycle
lasts goes_on cycle (suc n) = if goes_on cycle then lasts goes_on (cycle + 1) n else cycle

-- In the next cycle the same is shown.
abbrev pub is_kept : List Entry → ℕ → ℕ → ℕ → Bool
is_kept journal own other cycle = is_same_shown (cell_in journal own other cycle) (cell_in journal own other (cycle + 1))

-- The last cycle of the stretch that begins in a cycle.
abbrev pub last_of : List Entry → ℕ → ℕ → ℕ → ℕ → ℕ
last_of journal cycles own other first = lasts (is_kept journal own other) first (cycles - first)

-- A stretch begins in a cycle of the run.
pub record IsInRun (cycles : ℕ) (start : Start) : Type 0 where
  pub begun : 1 ≤ start.cycle
  pub in_run : start.cycle ≤ cycles
