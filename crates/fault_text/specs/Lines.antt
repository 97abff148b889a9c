-- The lines of a file, and the records in them.
use Rattle.std.specs.Borrow.{Bor}
use Rattle.std.specs.Prelude.{Option, None, Some, ◌≡◌, ℕ, ◌+◌, ◌<◌, ◌⊎◌, ◌==◌, ◌||◌, ◌&&◌, not, if◌then◌else◌, Bool, true, false, List, [], ◌∷◌, ◌++◌, filter, length, slice_index, MatchBool, codes, take}
use Rattle.std.specs.List.{list_any, onto_first, slice_split}
use Rattle.std.specs.Str.{bytes_eq}
use Rattle.csv.specs.Reading.{strip_bom}

-- The lines of a text without their ends. A line ends at a line feed, at a carriage return, at the two together, or at
-- the end of the text. `returned` says that a carriage return stands before the text.
abbrev pub lines_after : Bool → List ℕ → List (List ℕ)
lines_after returned [] = []
lines_after returned (c ∷ cs) =
    if c == 13 then [] ∷ lines_after true cs else
    if c == 10 then (if returned then lines_after false cs else [] ∷ lines_after false cs) else
    onto_first c (lines_after false cs)

-- The lines of a file. One byte order mark at the start is skipped.
abbrev pub file_lines : List ℕ → List (List ℕ)
file_lines text = lines_after false (strip_bom text)

-- A blank line has no byte. Each other line is a record.
abbrev pub is_written : List ℕ → Bool
is_written [] = false
is_written (c ∷ cs) = true

abbrev pub written : List (List ℕ) → List (List ℕ)
written lines = filter is_written lines

-- A line ends behind a text, before the next byte: the last byte of the text is a line feed, or a carriage return that
-- no line feed follows.
abbrev pub ends_before : ℕ → List ℕ → Bool
ends_before next [] = false
ends_before next (byte ∷ []) = (byte == 10) || ((byte == 13) && not (next == 10))
ends_before next (byte ∷ more ∷ text) = ends_before next (more ∷ text)

-- A line ends behind a text, where these bytes stand behind it. Where none do, the last line ends there.
abbrev pub EndsLine : List ℕ → List ℕ → Type 0
EndsLine [] text = Unit {0}
EndsLine (next ∷ behind) text = ends_before next text ≡ true

-- The first line of bytes, and what stands behind the end of this line.
pub record IsFirstLine (bytes line behind : List ℕ) : Type 0 where
  -- The line with its end.
  pub part : List ℕ
  pub whole : bytes ≡ part ++ behind
  pub ends : EndsLine behind part
  pub one : lines_after false part ≡ line ∷ []

-- The fields of a record stand between its commas.
abbrev pub fields_in : List ℕ → List (List ℕ)
fields_in line = slice_split (λ c. c == 44) line

-- A record stands in the line with this number. Records and lines are counted from 1, and blank lines are counted.
pub record IsPlaced (lines : List (List ℕ)) (at line_number : ℕ) (line : List ℕ) : Type 0 where
  pub before : List (List ℕ)
  pub after : List (List ℕ)
  pub whole : lines ≡ before ++ line ∷ after
  pub number : line_number ≡ length before + 1
  pub counted : at ≡ length (written before) + 1
  pub written : is_written line ≡ true

-- How many lines there are up to the last one that isn't blank.
abbrev pub up_to_last : List (List ℕ) → ℕ
up_to_last [] = 0
up_to_last (line ∷ lines) = if list_any is_written (line ∷ lines) then up_to_last lines + 1 else 0

-- There are fewer records. The number is that of the line behind the last one.
pub record IsBehind (lines : List (List ℕ)) (at line_number : ℕ) : Type 0 where
  pub few : length (written lines) < at
  pub number : line_number ≡ up_to_last lines + 1

-- A record stands in this line. Where there is no such record, the line is empty, and its number is that of the line
-- behind the last record.
abbrev pub Stands : List (List ℕ) → ℕ → ℕ → List ℕ → Type 0
Stands lines at number line = MatchBool (is_written line) (IsPlaced lines at number line) (IsBehind lines at number)

-- The first byte is a line feed or a carriage return.
pub record BeginsWithEnd (bytes : List ℕ) : Type 0 where
  pub some : 0 < length bytes
  pub first : (slice_index bytes 0 ≡ 10) ⊎ (slice_index bytes 0 ≡ 13)

-- The fields of what is left of a line; none where it is used up.
abbrev pub fields_left : Option (Bor (List ℕ)) → List (List ℕ)
fields_left None = []
fields_left (Some rest) = fields_in rest.now

-- Bytes begin so, as a recording, or as a text of tracks. One byte order mark may stand before.
abbrev pub begins : List ℕ → List ℕ → Bool
begins front bytes = bytes_eq (take (length front) (strip_bom bytes)) front

abbrev pub begins_recording : List ℕ → Bool
begins_recording bytes = begins (codes "recording,") bytes

abbrev pub begins_tracks : List ℕ → Bool
begins_tracks bytes = begins (codes "tracks,") bytes
