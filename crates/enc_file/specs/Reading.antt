-- What a text says: an encounter, or why it is refused.
use Rattle.std.specs.Prelude.{◌≡◌, ℕ, ◌+◌, ◌==◌, if◌then◌else◌, List, [], ◌∷◌, length, Option, Some, None, Result, Ok, Err, MatchResult}
use Rattle.acas_base.specs.Encounter.{Parts}
use Rattle.enc_file.specs.Earlier.{encounter_by, has_ended, version_of}
use Rattle.enc_file.specs.Faults.{fault_of}
use Rattle.enc_file.specs.Records.{records_of}
use Rattle.enc_file.specs.Saying.{header_of, record_of}
use Rattle.enc_file.specs.declared.record.Record.{Record}
use Rattle.enc_file.specs.declared.refusal.Code.{Code}
use Rattle.enc_file.specs.declared.refusal.Code.TheVariants as code
use Rattle.enc_file.specs.declared.refusal.Refusal.{Refusal}
use Rattle.enc_file.specs.declared.refusal.ReadError.{ReadError}
use Rattle.enc_file.specs.declared.refusal.ReadError.TheVariants.{Refused, OutOfMemory}

abbrev pub unless_faulty : Record → Option Code → Result Record Code
unless_faulty now None = Ok now
unless_faulty now (Some why) = Err why

-- A record, where nothing is wrong with it after those before it.
abbrev pub checked : List Record → Result Record Code → Result Record Code
checked earlier (Err why) = Err why
checked earlier (Ok now) = unless_faulty now (fault_of earlier now)

-- A record after the header and before the end.
abbrev pub later_record : List Record → List (List ℕ) → Result Record Code
later_record earlier fields = if has_ended earlier then Err code.After else checked earlier (record_of (version_of earlier) fields)

-- What the next record says. The first is the header, and none may follow the end.
abbrev pub next_record : List Record → List (List ℕ) → Result Record Code
next_record [] fields = header_of fields
next_record (last ∷ earlier) fields = later_record (last ∷ earlier) fields

-- The refusal of the record after the first `count` ones.
abbrev pub refusal_after : ℕ → Code → Refusal
refusal_after count why = record { at = count + 1; code = why }

-- What is missing where no record follows the first `count` ones.
abbrev pub missing_after : ℕ → Code
missing_after count = if count == 0 then code.Header else code.NoEnd

-- What follows where nothing is wrong with the record after the first `count` ones.
abbrev pub goes_on : ℕ → Result Record Code → (Record → Result Parts Refusal) → Result Parts Refusal
goes_on count (Err why) next = Err (refusal_after count why)
goes_on count (Ok now) next = next now

-- What a text says from the records that are left, after the earlier ones. The first record with a fault is refused.
unfoldable pub read_from : List Record → List (List (List ℕ)) → Result Parts Refusal
read_from earlier [] = if has_ended earlier then Ok (encounter_by earlier) else Err (refusal_after (length earlier) (missing_after (length earlier)))
read_from earlier (fields ∷ rest) = goes_on (length earlier) (next_record earlier fields) (λ now. read_from (now ∷ earlier) rest)

-- What a text says.
abbrev pub reading_of : List ℕ → Result Parts Refusal
reading_of text = read_from [] (records_of text)

-- It says this encounter.
abbrev pub Says : List ℕ → Parts → Type 0
Says text e = reading_of text ≡ Ok e

-- What was read is what the text says. Memory may be wanting at any time.
abbrev pub Explains : Result Parts Refusal → ReadError → Type 0
Explains reading (Refused refusal) = reading ≡ Err refusal
Explains reading OutOfMemory = Unit {0}

abbrev pub IsReading : Result Parts Refusal → Result Parts ReadError → Type 0
IsReading reading result = MatchResult result (λ e. reading ≡ Ok e) (Explains reading)
