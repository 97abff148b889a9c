-- The records that a reader of a text still has to give.
use Rattle.std.specs.Prelude.{◌≡◌, ◌+◌, ◌⊎◌, ℕ, true, false, List, [], ◌∷◌, Bool, length, Option, Some, None}
use Rattle.std.specs.Borrow.{Bor}
use Rattle.csv.specs.Reading.{Ready, has_failed, is_flexible, reader_config, reader_state, reader_trim, records_from, source_of}
use Rattle.csv.specs.declared.parser.State.{State}
use Rattle.csv.specs.declared.reader.Reader.{Reader}
use Rattle.csv.specs.declared.reader.Trim.TheVariants as trim
use Rattle.enc_file.specs.Records.{unquoted}

-- The records of these bytes, from a state of the reader on. Where the bytes aren't known, there are none.
abbrev pub rows_from : State → Option (List ℕ) → List (List (List ℕ))
rows_from state None = []
rows_from state (Some bytes) = records_from unquoted (length bytes + 1) state bytes

-- The records that a reader hasn't given yet. After a failure it gives none.
abbrev pub rows_left : Reader (Bor (List ℕ)) → List (List (List ℕ))
rows_left reader = rows_from (reader_state reader) (source_of (λ s. Some s.now) reader)

-- A reader that gives each record as it stands in the text, of any length.
pub record ReadsPlainly (reader : Reader (Bor (List ℕ))) : Type 0 where
  pub config : reader_config reader ≡ unquoted
  pub trim : reader_trim reader ≡ trim.None
  pub flexible : is_flexible reader ≡ true
  pub ready : Ready reader

-- The same, where it hasn't failed.
abbrev pub IsPlain : Reader (Bor (List ℕ)) → Type 0
IsPlain reader = (has_failed reader ≡ true) ⊎ ReadsPlainly reader

-- What was left before a read that found a record with these fields, or the end.
abbrev pub after_read : Bool → List (List ℕ) → List (List (List ℕ)) → List (List (List ℕ))
after_read true fields left = fields ∷ left
after_read false fields left = []
