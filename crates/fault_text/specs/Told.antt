-- What is told of a refusal: in which line the record stands, and what is wrong with it.
use Rattle.std.specs.Borrow.{Bor}
use Rattle.std.specs.Prelude.{◌≡◌, ℕ, ◌+◌, ◌-◌, ◌≤◌, ◌<◌, Bool, false, true, List, [], length, map, drop, count_ones, option_map, Option, Some, None, codes, slice_get, IsSome}
use Rattle.enc_file.specs.Conditions as stated
use Rattle.enc_file.specs.Conditions.{IsRefused, is_first}
use Rattle.enc_file.specs.Records.{records_of}
use Rattle.enc_file.specs.Saying.{version_in}
use Rattle.enc_file.specs.Values.{count_in, field, mask_in}
use Rattle.enc_file.specs.declared.record.Record.{Record}
use Rattle.enc_file.specs.declared.refusal.Code.{Code}
use Rattle.enc_file.specs.declared.refusal.Code.TheVariants as code
use Rattle.enc_file.specs.declared.refusal.Refusal.{Refusal}
use Rattle.fault_text.specs.Before.{TellsCounted, TellsRepeat, TellsUnknown}
use Rattle.fault_text.specs.Lines.{IsPlaced, Stands, fields_in, file_lines, is_written, written}
use Rattle.fault_text.specs.Names.{first_failing, names_of, word_text}
pub use Rattle.fault_text.specs.Names.{stated_kind, stated_kinds}
use Rattle.fault_text.specs.Rows.{AreBefore, SaysRow, records_in}
use Rattle.fault_text.specs.Outside.{TellsOutside}
use Rattle.fault_text.specs.Sentences.{sentence}
use Rattle.fault_text.specs.declared.fault.Fault.{Fault}
use Rattle.fault_text.specs.declared.fault.Why.{Why}
use Rattle.fault_text.specs.declared.fault.Why.TheVariants as why
use Rattle.fault_text.specs.declared.names.FieldName.{FieldName}
use Rattle.fault_text.specs.declared.names.RecordKind.{RecordKind}
use Rattle.fault_text.specs.declared.names.RecordKind.TheVariants as kind

-- Of the fields with these names, which stand behind the first field, the leftmost one that fails its part of a code's
-- condition; with None, no field does.
abbrev pub IsLeftmost : Code → List FieldName → List ℕ → Option (FieldName × Bor (List ℕ)) → Type 0
IsLeftmost c names line found = option_map (λ p. (p.0, p.1.now)) found ≡ first_failing c names (drop 1 (fields_in line))

-- No header.
abbrev pub TellsHeader : List ℕ → Why → Type 0
TellsHeader line why.NoRecord = line ≡ []
TellsHeader line (why.NoHeader found) = (found.now ≡ line) × (is_written line ≡ true)
TellsHeader line other = ⊥

-- The two cycles of a miss. Both are cycles, and the second is before the first.
abbrev pub TellsTurned : List ℕ → Why → Type 0
TellsTurned line (why.Turned from to) = (count_in 1 600 (field (fields_in line) 3) ≡ Some from) × (count_in 1 600 (field (fields_in line) 4) ≡ Some to) × (to < from)
TellsTurned line other = ⊥

-- The leftmost field that is no value; or, where all are values, TO below FROM in a miss.
abbrev pub TellsNumber : RecordKind → List ℕ → Why → Type 0
TellsNumber of line (why.NoValue name found) = IsLeftmost code.Number (names_of of) line (Some (name, found))
TellsNumber of line other = IsLeftmost code.Number (names_of of) line None × (of ≡ kind.Miss) × TellsTurned line other

-- The leftmost field that has to be an address and is none.
abbrev pub TellsAddress : RecordKind → List ℕ → Why → Type 0
TellsAddress kind line (why.NoAddress name found) = IsLeftmost code.Address (names_of kind) line (Some (name, found))
TellsAddress kind line other = ⊥

-- The leftmost mask with more than three bits, and how many it has.
abbrev pub TellsMask : RecordKind → List ℕ → Why → Type 0
TellsMask kind line (why.ManyBits name found bits) = IsLeftmost code.Mask (names_of kind) line (Some (name, found)) × (option_map count_ones (mask_in found.now) ≡ Some bits)
TellsMask kind line other = ⊥

-- A record has a fault of one of these codes, and its number of fields isn't wrong where the code is another one.
abbrev pub wrong_by : Code → stated.RecordKind → List (List ℕ) → Bool
wrong_by code.Fields of fields = stated.is_count_wrong of fields
wrong_by code.Number of fields = stated.is_number_wrong of fields
wrong_by code.Address of fields = stated.is_address_wrong of fields
wrong_by code.Mask of fields = stated.is_masked of fields
wrong_by other of fields = false

abbrev pub is_fields : Code → Bool
is_fields code.Fields = true
is_fields other = false

-- The same of a record of a known kind.
pub record IsWrong (c : Code) (of : RecordKind) (fields : List (List ℕ)) : Type 0 where
  pub wrong : wrong_by c (stated_kind of) fields ≡ true
  pub counted : is_fields c ≡ false → stated.is_count_wrong (stated_kind of) fields ≡ false

pub record IsAtFault (version : ℕ) (c : Code) (fields : List (List ℕ)) : Type 0 where
  pub kind : stated.RecordKind
  pub named : stated.kind_named version (field fields 0) ≡ Some kind
  pub wrong : wrong_by c kind fields ≡ true
  pub counted : is_fields c ≡ false → stated.is_count_wrong kind fields ≡ false

-- The first field names this kind.
abbrev pub IsNamed : List ℕ → RecordKind → Type 0
IsNamed line of = word_text of ≡ field (fields_in line) 0

-- A number of fields that this kind hasn't.
abbrev pub TellsCount : RecordKind → List ℕ → Why → Type 0
TellsCount of line (why.FieldCount kind count) = (kind ≡ of) × (count ≡ length (fields_in line)) × (stated.is_count_wrong (stated_kind of) (fields_in line) ≡ true)
TellsCount of line other = ⊥

abbrev pub TellsKind : Code → RecordKind → List ℕ → Why → Type 0
TellsKind code.Fields of line w = TellsCount of line w
TellsKind code.Number of line w = TellsNumber of line w
TellsKind code.Address of line w = TellsAddress of line w
TellsKind code.Mask of line w = TellsMask of line w
TellsKind other of line w = ⊥

pub record TellsRecord (c : Code) (line : List ℕ) (w : Why) : Type 0 where
  pub kind : RecordKind
  pub named : IsNamed line kind
  pub tells : TellsKind c kind line w

-- The first record is a header of this format.
pub record IsFormat (text : List ℕ) (version : ℕ) : Type 0 where
  pub number : ℕ
  pub line : List ℕ
  pub first : IsPlaced (file_lines text) 1 number line
  pub said : version_in (fields_in line) ≡ Some version

-- There is a first record, and it is a header.
pub record IsHeaded (text : List ℕ) : Type 0 where
  pub fields : List (List ℕ)
  pub first : slice_get (records_of text) 0 ≡ Some fields
  pub header : IsSome (version_in fields)

-- The record with this number, from 1, is that of this line. The line is empty where there is no such record.
abbrev pub IsRecord : List (List ℕ) → ℕ → List ℕ → Type 0
IsRecord lines at line = (number : ℕ) × Stands lines at number line

-- A first field that names no kind of the text's format.
abbrev pub TellsName : List ℕ → List ℕ → Why → Type 0
TellsName text line (why.NoKind version found) = IsFormat text version × (found.now ≡ field (fields_in line) 0) × (stated.kind_named version found.now ≡ None)
TellsName text line other = ⊥

-- The record before the refused one.
abbrev pub TellsAfter : List ℕ → ℕ → Why → Type 0
TellsAfter text at (why.After end) = (line : List ℕ) × IsPlaced (file_lines text) (at - 1) end line × (line ≡ codes "end")
TellsAfter text at other = ⊥

-- A record has a fault of one of these codes after those before it.
abbrev pub against_by : Code → List Record → stated.RecordKind → List (List ℕ) → Bool
against_by code.Repeat earlier kind fields = stated.is_repeat earlier kind fields
against_by code.Unknown earlier kind fields = stated.is_unknown earlier kind fields
against_by code.Count earlier kind fields = stated.is_miscounted earlier kind fields
against_by other earlier kind fields = false

-- A record of this kind has a fault of this code after those before it, which say these things.
pub record IsAgainst (text : List ℕ) (at : ℕ) (c : Code) (kind : RecordKind) (line : List ℕ) (earlier : List (Option Record)) : Type 0 where
  pub before : AreBefore SaysRow text at earlier
  pub fault : against_by c (records_in earlier) (stated_kind kind) (fields_in line) ≡ true

-- A refused record of this kind has its fault after those before it, which aren't none.
pub record IsRefusedAgainst (text : List ℕ) (refusal : Refusal) (kind : RecordKind) (line : List ℕ) : Type 0 where
  pub refused : IsRefused (records_of text) refusal
  pub fault : against_by refusal.code refused.earlier (stated_kind kind) (fields_in line) ≡ true
  pub some : is_first refused.earlier ≡ false
  pub enough : refusal.at ≤ length (written (file_lines text)) + 1

-- The same of a record whose kind its first field names.
pub record IsNamedAgainst (text : List ℕ) (refusal : Refusal) (version : ℕ) (line : List ℕ) : Type 0 where
  pub kind : stated.RecordKind
  pub named : stated.kind_named version (field (fields_in line) 0) ≡ Some kind
  pub against : (of : RecordKind) → stated_kind of ≡ kind → IsRefusedAgainst text refusal of line

-- What is wrong with a record after those before it, by the code.
abbrev pub TellsAgainst : Code → List ℕ → List (Option Record) → RecordKind → List (List ℕ) → Why → Type 0
TellsAgainst code.Repeat text earlier kind fields w = TellsRepeat text earlier kind fields w
TellsAgainst code.Unknown text earlier kind fields w = TellsUnknown (records_in earlier) kind fields w
TellsAgainst code.Count text earlier kind fields w = TellsCounted (records_in earlier) kind w
TellsAgainst other text earlier kind fields w = ⊥

-- The records before the refused one are those that `IsRefused` names.
pub record TellsEarlier (text : List ℕ) (refusal : Refusal) (kind : RecordKind) (line : List ℕ) (w : Why) : Type 0 where
  pub refused : IsRefused (records_of text) refusal
  pub tells : TellsAgainst refusal.code text (map (λ now. Some now) refused.earlier) kind (fields_in line) w

pub record TellsAfterEarlier (text : List ℕ) (refusal : Refusal) (line : List ℕ) (w : Why) : Type 0 where
  pub kind : RecordKind
  pub named : IsNamed line kind
  pub earlier : TellsEarlier text refusal kind line w

-- What is wrong, by the code.
abbrev pub Tells : Code → List ℕ → ℕ → List ℕ → Why → Type 0
Tells code.Header text at line w = TellsHeader line w
Tells code.Kind text at line w = TellsName text line w
Tells code.Fields text at line w = TellsRecord code.Fields line w
Tells code.Number text at line w = TellsRecord code.Number line w
Tells code.Address text at line w = TellsRecord code.Address line w
Tells code.Repeat text at line w = TellsAfterEarlier text (record { at = at; code = code.Repeat }) line w
Tells code.Unknown text at line w = TellsAfterEarlier text (record { at = at; code = code.Unknown }) line w
Tells code.Count text at line w = TellsAfterEarlier text (record { at = at; code = code.Count }) line w
Tells code.Mask text at line w = TellsRecord code.Mask line w
Tells code.NoEnd text at line w = w ≡ why.NoEnd
Tells code.After text at line w = TellsAfter text at w
Tells code.Box text at line w = TellsOutside text (record { at = at; code = code.Box }) w

-- The line of the refused record, and what is wrong with it.
pub record Explains (text : List ℕ) (refusal : Refusal) (fault : Fault) : Type 0 where
  pub line : List ℕ
  pub place : Stands (file_lines text) refusal.at fault.line line
  pub tells : Tells refusal.code text refusal.at line fault.why

-- The line is the sentence of what is wrong with a refused text.
pub record IsExplained (text : List ℕ) (refusal : Refusal) (line : List ℕ) : Type 0 where
  pub fault : Fault
  pub explains : Explains text refusal fault
  pub line_is : line ≡ sentence fault
