-- The notes of a file, line by line.
use Rattle.std.specs.Prelude.{◌≡◌, ℕ, ◌+◌, ◌-◌, ◌*◌, ◌<◌, ◌==◌, if◌then◌else◌, List, [], ◌∷◌, ◌++◌, codes, length, map, take, Option, None, slice_index_or}
use Rattle.std.specs.Fmt.{decimal}
use Rattle.acas_base.specs.Encounter.{Parts}
use Rattle.acas_base.specs.declared.TheConstants.{CRAFTS}
use Rattle.acas_base.specs.declared.entry.Entry.{Entry}
use Rattle.fault_text.specs.Lines.{fields_in, file_lines}
use Rattle.idle_notes.specs.Messages.{first_idle}
use Rattle.idle_notes.specs.Noted.{notes_of}
use Rattle.idle_notes.specs.Sentences.{sentence}

-- The lines of the notes of one line of the file, and of all lines from one on. Lines are counted from 1, and blank
-- lines are counted.
abbrev pub line_notes : Parts → Option (List Entry) → ℕ → List ℕ → List (List ℕ)
line_notes e journal number line = map (sentence number) (notes_of e journal (fields_in line))

abbrev pub notes_from : Parts → Option (List Entry) → ℕ → List (List ℕ) → List (List ℕ)
notes_from e journal number [] = []
notes_from e journal number (line ∷ rest) = line_notes e journal number line ++ notes_from e journal (number + 1) rest

abbrev pub all_notes : Parts → Option (List Entry) → List ℕ → List (List ℕ)
all_notes e journal text = notes_from e journal 1 (file_lines text)

-- How many notes are told.
abbrev pub most_told : ℕ
most_told = 40

abbrev pub more_lines : ℕ → List (List ℕ)
more_lines more = if more == 0 then [] else (codes "and " ++ decimal more ++ codes " more\n") ∷ []

-- The first notes, and how many there are besides.
abbrev pub told_lines : List (List ℕ) → List (List ℕ)
told_lines notes = take most_told notes ++ more_lines (length notes - most_told)

-- The lines of the notes of a file.
unfoldable pub notes_text_lines : List ℕ → Parts → Option (List Entry) → List (List ℕ)
notes_text_lines text e journal = told_lines (all_notes e journal text)

-- What may still be put after so many notes.
abbrev pub still_told : ℕ → List (List ℕ) → List (List ℕ)
still_told told notes = take (most_told - told) notes

-- These are the numbers of the first idle fates, by pair.
abbrev pub AreFirsts : Parts → Option (List Entry) → List (Option ℕ) → Type 0
AreFirsts e journal firsts = (pair : ℕ) (d : Option ℕ) → pair < CRAFTS * CRAFTS → slice_index_or firsts pair d ≡ first_idle e journal pair
