-- The reasons of a journal, and their text. The newest entry of a journal stands first.
use Rattle.std.specs.Prelude.{ℕ, ◌-◌, ◌==◌, if◌then◌else◌, List, [], ◌∷◌, ◌++◌, length, map, Option, None, option_map, codes}
use Rattle.std.specs.List.{flat_map, range_with_len}
use Rattle.std.specs.Option.{option_and_then}
use Rattle.acas_base.specs.Encounter.{Parts}
use Rattle.acas_base.specs.declared.advisory.Cells.{Cells}
use Rattle.acas_base.specs.declared.advisory.Vrc.{Vrc}
use Rattle.acas_base.specs.declared.advisory.Vrc.TheVariants.{Nil, NotBelow, NotAbove}
use Rattle.acas_base.specs.declared.entry.Entry.{Entry}
use Rattle.acas_base.specs.declared.entry.Entry.TheVariants.{Commit, Send, Take}
use Rattle.acas_lines.specs.Lines.{count_line, joined}
use Rattle.air_journal.specs.Airs.{address_of, air_of}
use Rattle.air_rules.specs.Air.{Air}
use Rattle.air_rules.specs.Journal.{cell_at, commits, last_cell}
use Rattle.air_rules.specs.Takes.{Taken, complement_from, last_take}
use Rattle.craft_view.specs.Sight.{sight_of}
use Rattle.journal_reader.specs.Reading.{taken_at}
use Rattle.reasons.specs.Columns.{names_line, reason_line}
use Rattle.reasons.specs.Rules.{rule_of}
use Rattle.reasons.specs.Seen.{seen_of}
use Rattle.reasons.specs.Shown.{continued_after, shown_of}
use Rattle.reasons.specs.declared.reason.Reason.{Reason}
use Rattle.reasons.specs.declared.seen.Seen.{Seen}
use Rattle.reasons.specs.declared.told.Told.{Told}

-- A complement in force after so many commits, by the take that set it, which stands at a position.
abbrev pub told_from : Vrc → ℕ → Taken → ℕ → Told
told_from complement made taken at = record { complement = complement; sent_at = taken.send; taken_at = at; commits_since = made - taken.commits }

-- The same, where a complement is in force.
abbrev pub told_by : Vrc → ℕ → Option Taken → Option ℕ → Option Told
told_by Nil made taken at = None
told_by NotBelow made taken at = option_and_then (λ (t : Taken). option_map (told_from NotBelow made t) at) taken
told_by NotAbove made taken at = option_and_then (λ (t : Taken). option_map (told_from NotAbove made t) at) taken

-- What is in force on an aircraft from another one: that of the last good take.
unfoldable pub told_of : Air → List Entry → ℕ → ℕ → Option Told
told_of air journal own other = told_by (complement_from air journal own other) (commits journal own) (last_take air journal own other) (taken_at journal own other)

-- Why the cell of a commit against another aircraft is what it is, after the journal before it and by what own aircraft
-- sees.
abbrev pub reason_by : Parts → List Entry → ℕ → ℕ → Cells → ℕ → Seen → Reason
reason_by e journal own cycle cells other seen =
    let air = air_of e in
    let before = last_cell journal own other in
    record {
      position = length journal;
      cycle = cycle;
      own = address_of e own;
      other = address_of e other;
      seen = shown_of seen;
      continued = continued_after seen.view before;
      told = told_of air journal own other;
      before = before;
      cell = cell_at cells other;
      rule = rule_of before seen.view (complement_from air journal own other) seen.rank;
    }

unfoldable pub reason_of : Parts → List Entry → ℕ → ℕ → Cells → ℕ → Reason
reason_of e journal own cycle cells other = reason_by e journal own cycle cells other (seen_of (sight_of e own cycle) other)

-- Against each other aircraft, by index.
abbrev pub pair_reasons : Parts → List Entry → ℕ → ℕ → Cells → ℕ → List Reason
pair_reasons e journal own cycle cells other = if other == own then [] else reason_of e journal own cycle cells other ∷ []

abbrev pub commit_reasons : Parts → List Entry → ℕ → ℕ → Cells → List Reason
commit_reasons e journal own cycle cells = flat_map (pair_reasons e journal own cycle cells) (range_with_len 0 (length e.crafts))

-- Of each commit, by position.
abbrev pub entry_reasons : Parts → List Entry → Entry → List Reason
entry_reasons e journal (Commit own cycle cells) = commit_reasons e journal own cycle cells
entry_reasons e journal (Send own target number word) = []
entry_reasons e journal (Take own send copy good) = []

abbrev pub reasons_of : Parts → List Entry → List Reason
reasons_of e [] = []
reasons_of e (entry ∷ earlier) = reasons_of e earlier ++ entry_reasons e earlier entry

-- ---- the text

-- How many lines follow that with the names of the columns; these names; and the line of each reason.
abbrev pub reasons_lines : Parts → List Entry → List (List ℕ)
reasons_lines e journal = count_line (codes "why") (length (reasons_of e journal)) ∷ names_line e.profile ∷ map (reason_line e.profile) (reasons_of e journal)

abbrev pub reasons_text : Parts → List Entry → List ℕ
reasons_text e journal = joined (reasons_lines e journal)
