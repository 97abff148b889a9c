-- The intervals of equal senses of a journal, which stands with its newest entry first.
use Rattle.std.specs.Prelude.{◌≡◌, ℕ, ◌&&◌, ◌||◌, ◌==◌, nat_lt, Bool, true, false, if◌then◌else◌, List, [], ◌∷◌, ◌++◌, Option, Some, None, codes, is_some, length, option_and_then, option_to_list, unwrap_or}
use Rattle.std.specs.Fmt.{decimal}
use Rattle.std.specs.List.{flat_map, range_with_len}
use Rattle.std.specs.Option.{option_map_or}
use Rattle.acas_base.specs.Encounter.{Parts}
use Rattle.acas_base.specs.Senses.{has_sense, sense_of}
use Rattle.acas_base.specs.declared.TheConstants.{CRAFTS}
use Rattle.acas_base.specs.declared.advisory.Cell.{Cell}
use Rattle.acas_base.specs.declared.advisory.Rank.{Rank}
use Rattle.acas_base.specs.declared.advisory.Rank.TheVariants.{First, Second, Free}
use Rattle.acas_base.specs.declared.advisory.Sense.{Sense}
use Rattle.acas_base.specs.declared.entry.Entry.{Entry}
use Rattle.acas_base.specs.declared.entry.Entry.TheVariants.{Commit, Send, Take}
use Rattle.acas_lines.specs.Lines.{count_line, joined, line_of}
use Rattle.acas_text.specs.Hex.{hex}
use Rattle.advisory_report.specs.Cells.{sense_letter}
use Rattle.air_journal.specs.Airs.{address_of, air_of}
use Rattle.air_rules.specs.Air.{Air, rank_of}
use Rattle.air_rules.specs.Journal.{before_last_commit, cell_at, is_commit_of, last_cell}
use Rattle.air_rules.specs.Takes.{Taken, last_take}
use Rattle.journal_reader.specs.Reading.{present_run}
use Rattle.pair_watch.specs.declared.pair.Cause.{Cause}
use Rattle.pair_watch.specs.declared.pair.Cause.TheVariants.{Untold, Old, Lapsed}

-- ---- who is watched

abbrev pub is_first : Rank → Bool
is_first First = true
is_first Second = false
is_first Free = false

abbrev pub is_second : Rank → Bool
is_second First = false
is_second Second = true
is_second Free = false

-- Both coordinate, and `high` gives way to `low`.
abbrev pub is_watched : Air → ℕ → ℕ → Bool
is_watched air low high = is_second (rank_of air high low) && is_first (rank_of air low high)

-- ---- rows of equal senses

-- The sense in which both advise against each other by their last commits; none where they don't.
abbrev pub equal_sense : List Entry → ℕ → ℕ → Option Sense
equal_sense journal low high = option_and_then (λ sense. if has_sense (last_cell journal low high) sense then Some sense else None) (sense_of (last_cell journal high low))

abbrev pub is_pair_commit : ℕ → ℕ → Entry → Bool
is_pair_commit low high entry = is_commit_of low entry || is_commit_of high entry

-- The longest row of commits of both, up to the last one, after each of which the senses are equal: the position of its
-- first commit; none where they aren't equal after the last one.
abbrev pub row_began : List Entry → ℕ → ℕ → Option ℕ
row_began [] low high = None
row_began (entry ∷ earlier) low high =
    if is_pair_commit low high entry
    then (if is_some (equal_sense (entry ∷ earlier) low high) then Some (unwrap_or (row_began earlier low high) (length earlier)) else None)
    else row_began earlier low high

abbrev pub is_at : ℕ → Option ℕ → Bool
is_at position began = option_map_or (λ b. b == position) began false

-- The last entry is a commit of this aircraft.
abbrev pub ends_with_commit : List Entry → ℕ → Bool
ends_with_commit [] own = false
ends_with_commit (entry ∷ earlier) own = is_commit_of own entry

-- The position of the last commit of the row that began at a position.
abbrev pub last_of : List Entry → ℕ → ℕ → ℕ → Option ℕ
last_of [] low high from = None
last_of (entry ∷ earlier) low high from =
    if is_pair_commit low high entry && is_at from (row_began (entry ∷ earlier) low high) then Some (length earlier) else last_of earlier low high from

-- The sense of the row that begins at a position, the last one of the journal.
abbrev pub begun_sense : List Entry → ℕ → ℕ → ℕ → Option Sense
begun_sense journal low high position = if is_at position (row_began journal low high) then equal_sense journal low high else None

-- ---- what a row is told by

-- Why the senses are equal: the one that gives way had taken no undamaged message of the other one by its last commit;
-- or the last one was sent before that one's present run; or else it has lapsed.
abbrev pub cause_by : Option Taken → Option ℕ → Cause
cause_by None run = Untold
cause_by (Some taken) run = if nat_lt taken.send (unwrap_or run 0) then Old else Lapsed

abbrev pub cause_of : Air → List Entry → ℕ → ℕ → Cause
cause_of air journal low high = cause_by (last_take air (before_last_commit journal high) high low) (present_run journal low high)

abbrev pub is_send_from : Entry → ℕ → ℕ → Bool
is_send_from (Commit own cycle cells) low high = false
is_send_from (Send own target number word) low high = own == low && target == high
is_send_from (Take own send copy good) low high = false

-- The position of the first send of one aircraft to the other one after a position.
abbrev pub next_send : List Entry → ℕ → ℕ → ℕ → Option ℕ
next_send [] low high from = None
next_send (entry ∷ earlier) low high from =
    if nat_lt from (length earlier) && is_send_from entry low high
    then Some (unwrap_or (next_send earlier low high from) (length earlier))
    else next_send earlier low high from

-- ---- a commit as it ends or goes on with a row

abbrev pub pair_cell : Entry → ℕ → ℕ → Option Cell
pair_cell (Commit own cycle cells) low high = if own == high then Some (cell_at cells low) else (if own == low then Some (cell_at cells high) else None)
pair_cell (Send own target number word) low high = None
pair_cell (Take own send copy good) low high = None

-- A commit has a cell for each aircraft that there can be.
abbrev pub HasCells : Entry → Type 0
HasCells (Commit own cycle cells) = length cells.list ≡ CRAFTS
HasCells (Send own target number word) = Unit {0}
HasCells (Take own send copy good) = Unit {0}

-- ---- the text

abbrev pub cause_letter : Cause → List ℕ
cause_letter Untold = codes "n"
cause_letter Old = codes "o"
cause_letter Lapsed = codes "l"

abbrev pub next_text : Option ℕ → List ℕ
next_text None = codes "-"
next_text (Some position) = decimal position

abbrev pub interval_line : ℕ → ℕ → Sense → ℕ → ℕ → Cause → Option ℕ → List ℕ
interval_line low high sense from to cause next =
    line_of (codes "w" ∷ hex 6 low ∷ hex 6 high ∷ sense_letter sense ∷ decimal from ∷ decimal to ∷ cause_letter cause ∷ next_text next ∷ [])

-- The line of the interval of a pair that begins with the last entry of a beginning of the journal.
abbrev pub line_for : Parts → List Entry → List Entry → ℕ → ℕ → ℕ → Sense → List ℕ
line_for e journal begun low high position sense =
    interval_line (address_of e low) (address_of e high) sense position (unwrap_or (last_of journal low high position) position) (cause_of (air_of e) begun low high) (next_send journal low high position)

abbrev pub line_at : Parts → List Entry → List Entry → ℕ → ℕ → ℕ → Option (List ℕ)
line_at e journal begun position low high =
    if is_watched (air_of e) low high
    then option_and_then (λ sense. Some (line_for e journal begun low high position sense)) (begun_sense begun low high position)
    else None

abbrev pub lines_of_low : Parts → List Entry → List Entry → ℕ → ℕ → List (List ℕ)
lines_of_low e journal begun position low = flat_map (λ high. option_to_list (line_at e journal begun position low high)) (range_with_len 0 (length e.crafts))

-- The lines of the intervals that begin with the last entry, by the index of the one and then of the other aircraft.
abbrev pub lines_at : Parts → List Entry → List Entry → ℕ → List (List ℕ)
lines_at e journal begun position = flat_map (lines_of_low e journal begun position) (range_with_len 0 (length e.crafts))

-- Those of the intervals that begin in a beginning of the journal, in order.
unfoldable pub begun_lines : Parts → List Entry → List Entry → List (List ℕ)
begun_lines e journal [] = []
begun_lines e journal (entry ∷ earlier) = begun_lines e journal earlier ++ lines_at e journal (entry ∷ earlier) (length earlier)

abbrev pub interval_lines : Parts → List Entry → List (List ℕ)
interval_lines e journal = begun_lines e journal journal

abbrev pub watch_lines : Parts → List Entry → List (List ℕ)
watch_lines e journal = count_line (codes "watch") (length (interval_lines e journal)) ∷ interval_lines e journal

abbrev pub watch_text : Parts → List Entry → List ℕ
watch_text e journal = joined (watch_lines e journal)
