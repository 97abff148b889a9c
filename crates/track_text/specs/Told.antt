-- What is told of a record of tracks, by the code of its fault. What an encounter's text can have, too, is told as there.
use Rattle.std.specs.Prelude.{◌≡◌, ℕ, ◌+◌, ◌≤◌, ℤ, ◌≤ℤ◌, ◌==◌, Bool, true, false, pos, neg_ℤ, List, [], length, map, Option, Some, None}
use Rattle.acas_base.specs.declared.TheConstants.{CRAFTS}
use Rattle.enc_file.specs.Conditions.{is_first}
use Rattle.enc_file.specs.Earlier.{crafts_of, version_of}
use Rattle.enc_file.specs.Records.{records_of}
use Rattle.enc_file.specs.Values.{address_in, field, number_in}
use Rattle.enc_file.specs.declared.record.Record.{Record}
use Rattle.enc_file.specs.declared.refusal.Code.{Code}
use Rattle.enc_file.specs.declared.refusal.Code.TheVariants as code
use Rattle.fault_text.specs.Before.{IsLast, IsStrange, TellsCounted, TellsRepeat, TellsUnknown}
use Rattle.fault_text.specs.Lines.{IsPlaced, fields_in, file_lines, is_written, written}
use Rattle.fault_text.specs.Rows.{records_in}
use Rattle.fault_text.specs.Told as told
use Rattle.fault_text.specs.Told.{IsLeftmost, TellsCount, TellsKind}
use Rattle.fault_text.specs.declared.fault.Why.{Why}
use Rattle.fault_text.specs.declared.fault.Why.TheVariants as shared
use Rattle.fault_text.specs.declared.names.FieldName.{FieldName}
use Rattle.fault_text.specs.declared.names.FieldName.TheVariants as name
use Rattle.fault_text.specs.declared.names.RecordKind.TheVariants as kind
use Rattle.track_file.specs.declared.track.Point.{Point}
use Rattle.track_text.specs.Conditions.{IsRefused, TrackKind, is_address_wrong, is_count_wrong, is_masked, is_miscounted, is_number_wrong, is_repeat, is_unknown, kind_named}
use Rattle.track_text.specs.Earlier.{shared_of}
use Rattle.track_text.specs.Kinds.{IsLineKind, own_names, stated_own}
use Rattle.track_text.specs.declared.kinds.LineKind.{LineKind}
use Rattle.track_text.specs.declared.kinds.LineKind.TheVariants as of
use Rattle.track_text.specs.declared.kinds.OwnKind.TheVariants as own
use Rattle.track_text.specs.declared.record.TrackRecord.{TrackRecord}
use Rattle.track_text.specs.declared.record.TrackRecord.TheVariants.{Shared, At}
use Rattle.track_text.specs.declared.refusal.Fault.{Fault}
use Rattle.track_text.specs.declared.refusal.Fault.TheVariants.{Text, Track}
use Rattle.track_text.specs.declared.refusal.Refusal.{Refusal}
use Rattle.track_text.specs.declared.why.TrackWhy.{TrackWhy}
use Rattle.track_text.specs.declared.why.TrackWhy.TheVariants as why

-- The records before a refused one of this text, where there are any, have a header that stands for this version of the
-- encounter.
abbrev pub IsFormat : List ℕ → ℕ → Type 0
IsFormat text version = (refusal : Refusal) (r : IsRefused (records_of text) refusal) → is_first (shared_of r.earlier) ≡ false → version_of (shared_of r.earlier) ≡ version

-- No header.
abbrev pub TellsHeader : List ℕ → TrackWhy → Type 0
TellsHeader line why.NoRecord = line ≡ []
TellsHeader line (why.NoHeader found) = (found.now ≡ line) × (is_written line ≡ true)
TellsHeader line other = ⊥

-- A first field that names no kind, where the header stands for this version of the encounter.
abbrev pub TellsName : ℕ → List ℕ → TrackWhy → Type 0
TellsName version line (why.NoKind told found) = (told ≡ version) × (found.now ≡ field (fields_in line) 0) × (kind_named version found.now ≡ None)
TellsName version line other = ⊥

-- A number of fields that this kind hasn't.
abbrev pub TellsFieldCount : LineKind → List ℕ → TrackWhy → Type 0
TellsFieldCount (of.Own own) line (why.FieldCount now count) = (now ≡ own) × (count ≡ length (fields_in line)) × (is_count_wrong (stated_own own) (fields_in line) ≡ true)
TellsFieldCount (of.Shared kind) line (why.Shared now) = TellsCount kind line now
TellsFieldCount kind line other = ⊥

-- Of fields with these names the leftmost one that is no value, or that has to be an address and is none.
abbrev pub TellsField : Code → List FieldName → List ℕ → Why → Type 0
TellsField code.Number names line (shared.NoValue name found) = IsLeftmost code.Number names line (Some (name, found))
TellsField code.Address names line (shared.NoAddress name found) = IsLeftmost code.Address names line (Some (name, found))
TellsField c names line other = ⊥

-- The field of a record that fails its part of the condition of a code: Number, Address or Mask.
abbrev pub TellsValue : Code → LineKind → List ℕ → TrackWhy → Type 0
TellsValue c (of.Own own) line (why.Shared now) = TellsField c (own_names own) line now
TellsValue c (of.Shared kind) line (why.Shared now) = TellsKind c kind line now
TellsValue c kind line other = ⊥

-- What is wrong with the fields of a record of this kind, by the code.
abbrev pub TellsFields : Code → LineKind → List ℕ → TrackWhy → Type 0
TellsFields code.Fields kind line w = TellsFieldCount kind line w
TellsFields code.Number kind line w = TellsValue code.Number kind line w
TellsFields code.Address kind line w = TellsValue code.Address kind line w
TellsFields code.Mask kind line w = TellsValue code.Mask kind line w
TellsFields other kind line w = ⊥

-- What records say, of what an encounter has, too.
abbrev pub shared_in : TrackRecord → Option Record
shared_in (Shared now) = Some now
shared_in (At address point) = None

abbrev pub all_shared : List TrackRecord → List (Option Record)
all_shared earlier = map shared_in earlier

-- A point of the aircraft with an address.
abbrev pub is_point_of : ℕ → TrackRecord → Bool
is_point_of address (Shared now) = false
is_point_of address (At other point) = other == address

-- The number of milliseconds that a field says.
abbrev pub ms_in : List ℕ → Option ℤ
ms_in found = number_in (neg_ℤ (pos 1000000)) (pos 1000000) found

-- The time of a point isn't above that of the last earlier point of its aircraft, which stands in the line with this
-- number.
pub record TellsNotAbove (text : List ℕ) (earlier : List TrackRecord) (fields : List (List ℕ)) (found reached : ℤ) (number : ℕ) : Type 0 where
  pub address : ℕ
  pub spelled : address_in (field fields 1) ≡ Some address
  pub found-is : ms_in (field fields 2) ≡ Some found
  pub at : ℕ
  pub point : Point
  pub is : IsLast earlier (is_point_of address) at (At address point)
  pub reached-is : point.ms ≡ reached
  pub line : List ℕ
  pub placed : IsPlaced (file_lines text) at number line
  pub order : found ≤ℤ reached

abbrev pub TellsLate : List ℕ → List TrackRecord → List (List ℕ) → TrackWhy → Type 0
TellsLate text earlier fields (why.NotAbove found reached number) = TellsNotAbove text earlier fields found reached number
TellsLate text earlier fields other = ⊥

abbrev pub TellsRepeated : List ℕ → List TrackRecord → LineKind → List (List ℕ) → TrackWhy → Type 0
TellsRepeated text earlier (of.Own own.Point) fields w = TellsLate text earlier fields w
TellsRepeated text earlier (of.Own own.Craft) fields (why.Shared now) = TellsRepeat text (all_shared earlier) kind.Craft fields now
TellsRepeated text earlier (of.Shared kind) fields (why.Shared now) = TellsRepeat text (all_shared earlier) kind fields now
TellsRepeated text earlier kind fields other = ⊥

-- The address of a point, which no earlier aircraft has.
abbrev pub TellsStranger : List Record → List (List ℕ) → Why → Type 0
TellsStranger earlier fields (shared.Unknown called found) = (called ≡ name.Address) × IsStrange earlier fields 1 found.now
TellsStranger earlier fields other = ⊥

abbrev pub TellsUnknownIn : List TrackRecord → LineKind → List (List ℕ) → TrackWhy → Type 0
TellsUnknownIn earlier (of.Own own.Point) fields (why.Shared now) = TellsStranger (records_in (all_shared earlier)) fields now
TellsUnknownIn earlier (of.Shared kind) fields (why.Shared now) = TellsUnknown (records_in (all_shared earlier)) kind fields now
TellsUnknownIn earlier kind fields other = ⊥

-- One aircraft too many; or what is wanting at the end.
abbrev pub TellsCountedIn : List TrackRecord → LineKind → TrackWhy → Type 0
TellsCountedIn earlier (of.Own own.Craft) why.ManyCrafts = CRAFTS ≤ length (crafts_of (records_in (all_shared earlier)))
TellsCountedIn earlier (of.Shared kind) (why.Shared now) = TellsCounted (records_in (all_shared earlier)) kind now
TellsCountedIn earlier kind other = ⊥

-- What is wrong with a record of this kind after those before it, by the code.
abbrev pub TellsAgainst : Code → List ℕ → List TrackRecord → LineKind → List (List ℕ) → TrackWhy → Type 0
TellsAgainst code.Repeat text earlier kind fields w = TellsRepeated text earlier kind fields w
TellsAgainst code.Unknown text earlier kind fields w = TellsUnknownIn earlier kind fields w
TellsAgainst code.Count text earlier kind fields w = TellsCountedIn earlier kind w
TellsAgainst other text earlier kind fields w = ⊥

-- The line behind which the record stands.
abbrev pub TellsAfter : List ℕ → ℕ → TrackWhy → Type 0
TellsAfter text at (why.Shared now) = told.TellsAfter text at now
TellsAfter text at other = ⊥

-- The same of a record of the kind that the first field of its line names.
abbrev pub TellsOf : List ℕ → (LineKind → Type 0) → Type 0
TellsOf line P = (kind : LineKind) × IsLineKind line kind × P kind

-- What is wrong, by the code.
abbrev pub TellsText : Code → List ℕ → List TrackRecord → ℕ → List ℕ → TrackWhy → Type 0
TellsText code.Header text earlier at line w = TellsHeader line w
TellsText code.Kind text earlier at line w = TellsName (version_of (shared_of earlier)) line w
TellsText code.Fields text earlier at line w = TellsOf line (λ kind. TellsFields code.Fields kind line w)
TellsText code.Number text earlier at line w = TellsOf line (λ kind. TellsFields code.Number kind line w)
TellsText code.Address text earlier at line w = TellsOf line (λ kind. TellsFields code.Address kind line w)
TellsText code.Repeat text earlier at line w = TellsOf line (λ kind. TellsAgainst code.Repeat text earlier kind (fields_in line) w)
TellsText code.Unknown text earlier at line w = TellsOf line (λ kind. TellsAgainst code.Unknown text earlier kind (fields_in line) w)
TellsText code.Count text earlier at line w = TellsOf line (λ kind. TellsAgainst code.Count text earlier kind (fields_in line) w)
TellsText code.Box text earlier at line w = ⊥
TellsText code.Mask text earlier at line w = TellsOf line (λ kind. TellsFields code.Mask kind line w)
TellsText code.NoEnd text earlier at line w = w ≡ why.Shared shared.NoEnd
TellsText code.After text earlier at line w = TellsAfter text at w

abbrev pub TellsFault : Fault → List ℕ → List TrackRecord → ℕ → List ℕ → TrackWhy → Type 0
TellsFault (Text c) text earlier at line w = TellsText c text earlier at line w
TellsFault (Track fault address) text earlier at line w = w ≡ why.Track fault address

-- What is wrong with the refused record, which stands in this line. The records before it are those that `IsRefused`
-- names.
pub record Tells (text : List ℕ) (refusal : Refusal) (line : List ℕ) (w : TrackWhy) : Type 0 where
  pub refused : IsRefused (records_of text) refusal
  pub tells : TellsFault refusal.fault text refused.earlier refusal.at line w

-- The codes of faults of the fields of a record, and of its faults after those before it.
abbrev pub is_of_fields : Code → Bool
is_of_fields code.Fields = true
is_of_fields code.Number = true
is_of_fields code.Address = true
is_of_fields code.Mask = true
is_of_fields other = false

abbrev pub is_of_earlier : Code → Bool
is_of_earlier code.Repeat = true
is_of_earlier code.Unknown = true
is_of_earlier code.Count = true
is_of_earlier other = false

-- A record of this kind has a fault of this code by itself. Its number of fields isn't wrong where the code is another
-- one.
abbrev pub wrong_by : Code → TrackKind → List (List ℕ) → Bool
wrong_by code.Fields of fields = is_count_wrong of fields
wrong_by code.Number of fields = is_number_wrong of fields
wrong_by code.Address of fields = is_address_wrong of fields
wrong_by code.Mask of fields = is_masked of fields
wrong_by other of fields = false

pub record IsWrong (c : Code) (kind : TrackKind) (fields : List (List ℕ)) : Type 0 where
  pub wrong : wrong_by c kind fields ≡ true
  pub counted : told.is_fields c ≡ false → is_count_wrong kind fields ≡ false

-- A record of this kind has a fault of this code after those before it.
abbrev pub against_by : Code → List TrackRecord → TrackKind → List (List ℕ) → Bool
against_by code.Repeat earlier kind fields = is_repeat earlier kind fields
against_by code.Unknown earlier kind fields = is_unknown earlier kind fields
against_by code.Count earlier kind fields = is_miscounted earlier kind fields
against_by other earlier kind fields = false

pub record IsAgainst (text : List ℕ) (refusal : Refusal) (c : Code) (kind : TrackKind) (line : List ℕ) : Type 0 where
  pub refused : IsRefused (records_of text) refusal
  pub fault : against_by c refused.earlier kind (fields_in line) ≡ true
  pub some : is_first (shared_of refused.earlier) ≡ false
  pub enough : refusal.at ≤ length (written (file_lines text)) + 1

-- What is told of it. The records before it are those that `IsRefused` names.
pub record TellsEarlier (text : List ℕ) (refusal : Refusal) (c : Code) (kind : LineKind) (line : List ℕ) (w : TrackWhy) : Type 0 where
  pub refused : IsRefused (records_of text) refusal
  pub tells : TellsAgainst c text refused.earlier kind (fields_in line) w
