-- The pieces of a text: each is an encounter, or is read as one.
use Rattle.std.specs.Prelude.{◌≡◌, ◌<◌, ◌≤◌, ◌⊎◌, ℕ, Bool, true, false, List, [], ◌∷◌, ◌++◌, codes, drop, length, take}
use Rattle.std.specs.List.{AllByRecursion, list_any}
use Rattle.std.specs.Str.{bytes_eq}
use Rattle.enc_file.specs.Values.{field}
use Rattle.fault_text.specs.Lines.{EndsLine, fields_in, file_lines, is_written}

-- The first field of a line is `end`. So the line is no blank one.
abbrev pub is_end : List ℕ → Bool
is_end line = bytes_eq (field (fields_in line) 0) (codes "end")

-- A text has a record.
abbrev pub has_record : List ℕ → Bool
has_record text = list_any is_written (file_lines text)

-- No line is an end.
abbrev pub HasNoEnd : List (List ℕ) → Type 0
HasNoEnd lines = AllByRecursion (λ line. is_end line ≡ false) lines

-- The last line is an end, and no other one is.
pub record EndsOnce (lines : List (List ℕ)) : Type 0 where
  pub front : List (List ℕ)
  pub none : HasNoEnd front
  pub last : List ℕ
  pub ends : is_end last ≡ true
  pub lines_are : lines ≡ front ++ last ∷ []

-- No line of a text is an end, it has a record, and nothing stands behind it.
pub record IsUnended (piece behind : List ℕ) : Type 0 where
  pub none : HasNoEnd (file_lines piece)
  pub some : has_record piece ≡ true
  pub last : behind ≡ []

-- The first piece of bytes, and what stands behind it. It is cut behind the end of its last line, which is its one end.
-- Where the bytes have no end, all are the piece. The piece is read by itself, so one byte order mark may stand at its
-- start.
pub record IsFirst (bytes piece behind : List ℕ) : Type 0 where
  pub whole : bytes ≡ piece ++ behind
  pub cut : EndsLine behind piece
  pub ended : EndsOnce (file_lines piece) ⊎ IsUnended piece behind

-- The bytes are these pieces, one after the other, and then a rest without a record.
abbrev pub AreCut : List (List ℕ) → List ℕ → Type 0
AreCut [] bytes = has_record bytes ≡ false
AreCut (piece ∷ list) bytes = (behind : List ℕ) × IsFirst bytes piece behind × AreCut list behind

-- The first piece has this many bytes.
pub record IsSize (bytes : List ℕ) (size : ℕ) : Type 0 where
  pub some : 0 < size
  pub within : size ≤ length bytes
  pub first : IsFirst bytes (take size bytes) (drop size bytes)
