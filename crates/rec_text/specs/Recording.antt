-- The text of a recording: the encounter, the journal and the report. The newest entry of a journal stands first.
use Rattle.std.specs.Prelude.{ℕ, List, [], ◌∷◌, ◌++◌, length, codes}
use Rattle.acas_base.specs.Encounter.{Parts}
use Rattle.acas_base.specs.declared.entry.Entry.{Entry}
use Rattle.acas_lines.specs.Lines.{count_line, joined}
use Rattle.enc_file.specs.Canonical.{canonical_lines}
use Rattle.rec_text.specs.Entries.{entry_lines}
use Rattle.rec_text.specs.Report.{report_lines}

-- The first line, with the version of the format.
abbrev pub head_line : List ℕ
head_line = codes "recording,1\n"

-- A line with the number of lines that follow.
abbrev pub journal_line : ℕ → List ℕ
journal_line count = count_line (codes "journal") count

abbrev pub report_count_line : ℕ → List ℕ
report_count_line count = count_line (codes "report") count

abbrev pub close_line : List ℕ
close_line = codes "close\n"

-- After the entries come the report and the close.
abbrev pub closing_lines : Parts → List Entry → List (List ℕ)
closing_lines e journal = report_count_line (length (report_lines e journal)) ∷ (report_lines e journal ++ close_line ∷ [])

-- All lines of a recording.
abbrev pub recording_lines : Parts → List Entry → List (List ℕ)
recording_lines e journal =
    head_line ∷ (canonical_lines e ++ journal_line (length journal) ∷ (entry_lines (length e.crafts) journal ++ closing_lines e journal))

abbrev pub recording : Parts → List Entry → List ℕ
recording e journal = joined (recording_lines e journal)
