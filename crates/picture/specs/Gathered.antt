-- The lines of what the crews heard. With more than 4 aircraft equal calls of a cycle have one line.
use Rattle.std.specs.Prelude.{ℕ, zero, suc, ◌+◌, ◌==◌, ◌&&◌, Bool, false, if◌then◌else◌, nat_le, List, length, Option, Some, None, option_to_list}
use Rattle.std.specs.Cmp.Lexicographic.{pointwise}
use Rattle.std.specs.List.{flat_map, range_with_len}
use Rattle.acas_base.specs.Encounter.{Parts}
use Rattle.acas_base.specs.declared.entry.Entry.{Entry}
use Rattle.advisory_report.specs.Phrases.{phrase_text}
use Rattle.advisory_report.specs.Report.{is_same_word}
use Rattle.advisory_report.specs.declared.aural.Aural.{Aural}
use Rattle.picture.specs.Calls.{call_in}
use Rattle.picture.specs.declared.call.Call.{Call}
use Rattle.picture.specs.declared.gathered.CallLine.{CallLine}

-- ---- equal calls

abbrev pub is_same_phrase : Aural → Aural → Bool
is_same_phrase one other = pointwise ◌==◌ (phrase_text one) (phrase_text other)

-- One phrase, and one word of the report.
unfoldable pub is_equal : Call → Call → Bool
is_equal one other = is_same_phrase one.heard other.heard && is_same_word one.shown other.shown

abbrev pub is_heard_as : Call → Option Call → Bool
is_heard_as call None = false
is_heard_as call (Some other) = is_equal call other

-- An aircraft has an equal call in the same cycle.
abbrev pub has_equal : List Entry → Call → ℕ → Bool
has_equal journal call own = is_heard_as call (call_in journal call.cycle own)

-- How many of the first aircraft have one.
abbrev pub count_equal : List Entry → Call → ℕ → ℕ
count_equal journal call zero = 0
count_equal journal call (suc n) = if has_equal journal call n then count_equal journal call n + 1 else count_equal journal call n

-- ---- lines

-- A line for one call, and one for all equal calls of so many aircraft. The first one of these has it.
abbrev pub own_line : Call → CallLine
own_line call = record { call = call; calls = 1 }

abbrev pub shared_line : List Entry → ℕ → Call → Option CallLine
shared_line journal count call = if count_equal journal call call.own == 0 then Some (record { call = call; calls = count_equal journal call count }) else None

-- Of up to 4 aircraft each call has a line of its own.
unfoldable pub line_for : List Entry → ℕ → Call → Option CallLine
line_for journal count call = if nat_le count 4 then Some (own_line call) else shared_line journal count call

abbrev pub line_of : List Entry → ℕ → Option Call → Option CallLine
line_of journal count None = None
line_of journal count (Some call) = line_for journal count call

-- The line of an aircraft's call of a cycle, if it has one.
abbrev pub line_in : List Entry → ℕ → ℕ → ℕ → Option CallLine
line_in journal count cycle own = line_of journal count (call_in journal cycle own)

abbrev pub lines_at : List Entry → ℕ → ℕ → ℕ → List CallLine
lines_at journal count cycle own = option_to_list (line_in journal count cycle own)

-- The lines of a cycle, by index.
abbrev pub lines_in : List Entry → ℕ → ℕ → List CallLine
lines_in journal count cycle = flat_map (lines_at journal count cycle) (range_with_len 0 count)

-- All lines, by cycle.
abbrev pub call_lines : Parts → List Entry → List CallLine
call_lines e journal = flat_map (lines_in journal (length e.crafts)) (range_with_len 1 e.cycles)
