-- The lines of a journal's entries.
use Rattle.std.specs.Prelude.{ℕ, Bool, if◌then◌else◌, List, [], ◌∷◌, map, take, reverse, codes}
use Rattle.std.specs.Fmt.{decimal}
use Rattle.acas_base.specs.declared.entry.Entry.{Entry}
use Rattle.acas_base.specs.declared.entry.Entry.TheVariants.{Commit, Send, Take}
use Rattle.acas_text.specs.Hex.{hex}
use Rattle.advisory_report.specs.Cells.{cell_text}
use Rattle.enc_file.specs.Spelling.{line_of}

-- Whether a copy that was taken reads as a message.
abbrev pub outcome : Bool → List ℕ
outcome good = if good then codes "g" else codes "b"

-- The fields of an entry, in an encounter of `count` aircraft.
abbrev pub entry_fields : ℕ → Entry → List (List ℕ)
entry_fields count (Commit own cycle cells) = codes "c" ∷ decimal own ∷ decimal cycle ∷ map cell_text (take count cells.list)
entry_fields count (Send own target number word) = codes "s" ∷ decimal own ∷ decimal target ∷ decimal number ∷ hex 14 word ∷ []
entry_fields count (Take own send copy good) = codes "t" ∷ decimal own ∷ decimal send ∷ decimal copy ∷ outcome good ∷ []

abbrev pub entry_line : ℕ → Entry → List ℕ
entry_line count entry = line_of (entry_fields count entry)

-- The entries of a journal, in the order in which they were made.
abbrev pub entry_lines : ℕ → List Entry → List (List ℕ)
entry_lines count journal = map (entry_line count) (reverse journal)
