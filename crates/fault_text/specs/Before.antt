-- What the records before a refused one say.
use Rattle.std.specs.Prelude.{◌≡◌, ℕ, ◌+◌, ◌-◌, ◌≤◌, ◌⊎◌, ◌==◌, ◌&&◌, Bool, true, false, List, ◌∷◌, ◌++◌, length, codes, Option, Some, None, MatchOption, is_some, slice_get}
use Rattle.std.specs.List.{list_any}
use Rattle.std.specs.Str.{bytes_eq}
use Rattle.acas_base.specs.Encounter.{is_active, most_crafts}
use Rattle.enc_file.specs.Conditions.{if_said, is_call_by, is_given, is_stranger}
use Rattle.enc_file.specs.Earlier.{crafts_of, run_of, version_of}
use Rattle.enc_file.specs.Faults.{lacks_profile}
use Rattle.enc_file.specs.Values.{address_in, count_in, field}
use Rattle.enc_file.specs.declared.record.Record.{Record}
use Rattle.enc_file.specs.declared.record.Record.TheVariants as said
use Rattle.fault_text.specs.Lines.{IsPlaced, fields_in, file_lines, is_written, written}
use Rattle.fault_text.specs.Names.{names_of, word_text}
use Rattle.fault_text.specs.Rows.{rises, word_said}
use Rattle.fault_text.specs.declared.earlier.Sought.{Sought}
use Rattle.fault_text.specs.declared.fault.Why.{Why}
use Rattle.fault_text.specs.declared.fault.Why.TheVariants as why
use Rattle.fault_text.specs.declared.lines.Place.{Place}
use Rattle.fault_text.specs.declared.names.FieldName.{FieldName}
use Rattle.fault_text.specs.declared.names.RecordKind.{RecordKind}
use Rattle.fault_text.specs.declared.names.RecordKind.TheVariants as kind

-- The address that a record says first, and the one that it says second.
abbrev pub first_said : Record → Option ℕ
first_said (said.Craft craft) = Some craft.address
first_said (said.Call address sign) = Some address
first_said (said.Climb address limit) = Some address
first_said (said.Leg address course) = Some address
first_said (said.Miss pair from to) = Some pair.first
first_said (said.Plan pair copies) = Some pair.first
first_said (said.Fate pair number copies) = Some pair.first
first_said other = None

abbrev pub second_said : Record → Option ℕ
second_said (said.Miss pair from to) = Some pair.second
second_said (said.Plan pair copies) = Some pair.second
second_said (said.Fate pair number copies) = Some pair.second
second_said other = None

-- The number that a later record of the same kind, about the same aircraft or pair, has to exceed.
abbrev pub reached_said : Record → Option ℕ
reached_said (said.Leg address course) = Some course.from
reached_said (said.Miss pair from to) = Some to
reached_said (said.Fate pair number copies) = Some number
reached_said other = None

-- An address is the one that is asked for. Where none is asked for, all pass.
abbrev pub is_asked : Option ℕ → Option ℕ → Bool
is_asked None other = true
is_asked (Some address) other = if_said other (λ n. n == address)

-- A record with this word, about the addresses that are asked for.
abbrev pub is_about : Sought → Record → Bool
is_about sought now = bytes_eq (word_said now) (word_text sought.kind) && (is_asked sought.first (first_said now) && is_asked sought.second (second_said now))

-- The same of a record's fields.
abbrev pub are_about : Sought → List (List ℕ) → Bool
are_about sought fields = bytes_eq (field fields 0) (word_text sought.kind) && (is_asked sought.first (address_in (field fields 1)) && is_asked sought.second (address_in (field fields 2)))

-- Which addresses a record of a kind says.
abbrev pub has_first : RecordKind → Bool
has_first kind.Run = false
has_first kind.Gains = false
has_first kind.End = false
has_first kind.Profile = false
has_first kind.Name = false
has_first kind.Clock = false
has_first other = true

abbrev pub has_second : RecordKind → Bool
has_second kind.Miss = true
has_second kind.Plan = true
has_second kind.Fate = true
has_second other = false

abbrev pub address_if : Bool → List ℕ → Option ℕ
address_if true found = address_in found
address_if false found = None

-- The records of this kind that are about the same aircraft or pair as these fields.
abbrev pub alike : RecordKind → List (List ℕ) → Sought
alike kind fields = record { kind = kind; first = address_if (has_first kind) (field fields 1); second = address_if (has_second kind) (field fields 2) }

abbrev pub holds_sought : Sought → List ℕ → Bool
holds_sought sought line = are_about sought (fields_in line)

-- The last line of these that holds a record and passes a test, and its number, from 1. With None there is no such line.
pub record IsLastLine (holds : List ℕ → Bool) (lines : List (List ℕ)) (place : Place) : Type 0 where
  pub before : List (List ℕ)
  pub after : List (List ℕ)
  pub whole : lines ≡ before ++ place.line.now ∷ after
  pub number : place.number ≡ length before + 1
  pub full : is_written place.line.now ≡ true
  pub passes : holds place.line.now ≡ true
  pub last : list_any holds (written after) ≡ false

abbrev pub IsLastIn : (List ℕ → Bool) → List (List ℕ) → Option Place → Type 0
IsLastIn holds lines found = MatchOption found (list_any holds (written lines) ≡ false) (IsLastLine holds lines)

-- The same of the records before the one with a number.
pub record IsLastBefore (holds : List ℕ → Bool) (lines : List (List ℕ)) (at : ℕ) (found : Option Place) : Type 0 where
  pub before : List (List ℕ)
  pub after : List (List ℕ)
  pub whole : lines ≡ before ++ after
  pub count : length (written before) + 1 ≡ at
  pub last : IsLastIn holds before found

-- The last of some things that passes a test, and its number, from 1. The newest stands first.
pub record IsLast {X : Type 0} (earlier : List X) (test : X → Bool) (at : ℕ) (now : X) : Type 0 where
  pub newer : List X
  pub older : List X
  pub whole : earlier ≡ newer ++ now ∷ older
  pub number : at ≡ length older + 1
  pub passes : test now ≡ true
  pub last : list_any test newer ≡ false

-- The same of what a record says, where it is a record of an encounter.
abbrev pub is_about_in : Sought → Option Record → Bool
is_about_in sought now = if_said now (is_about sought)

-- The last earlier record of the same kind, about the same aircraft or pair. It stands in the line with this number.
pub record Collides (text : List ℕ) (earlier : List (Option Record)) (kind : RecordKind) (fields : List (List ℕ)) (number : ℕ) (now : Record) : Type 0 where
  pub at : ℕ
  pub is : IsLast earlier (is_about_in (alike kind fields)) at (Some now)
  pub line : List ℕ
  pub placed : IsPlaced (file_lines text) at number line

-- The field with the number that has to exceed the earlier one.
abbrev pub rising_place : RecordKind → ℕ
rising_place kind.Leg = 2
rising_place other = 3

-- The field with the number that a later record has to exceed.
abbrev pub reached_place : RecordKind → ℕ
reached_place kind.Leg = 2
reached_place kind.Miss = 4
reached_place other = 3

-- Of some kinds there is one record alone, or one about each aircraft or pair. Of the other kinds each record about an
-- aircraft or pair has to exceed the one before.
pub record TellsAgain (text : List ℕ) (earlier : List (Option Record)) (kind : RecordKind) (fields : List (List ℕ)) (named : RecordKind) (told : List (List ℕ)) (number : ℕ) : Type 0 where
  pub once : rises kind ≡ false
  pub same : named ≡ kind
  pub whole : told ≡ fields
  pub now : Record
  pub collides : Collides text earlier kind fields number now

pub record TellsNotAbove (text : List ℕ) (earlier : List (Option Record)) (kind : RecordKind) (fields : List (List ℕ)) (named : RecordKind) (found reached number : ℕ) : Type 0 where
  pub rising : rises kind ≡ true
  pub same : named ≡ kind
  pub now : Record
  pub collides : Collides text earlier kind fields number now
  pub found-is : count_in 1 600 (field fields (rising_place kind)) ≡ Some found
  pub reached-is : reached_said now ≡ Some reached
  pub order : found ≤ reached

-- The fields of a record with this call sign, and what such a record says.
abbrev pub are_called : List ℕ → List (List ℕ) → Bool
are_called sign fields = bytes_eq (field fields 0) (codes "call") && bytes_eq (field fields 2) sign

abbrev pub holds_sign : List ℕ → List ℕ → Bool
holds_sign sign line = are_called sign (fields_in line)

abbrev pub is_called_in : List ℕ → Option Record → Bool
is_called_in sign now = if_said now (is_call_by sign)

-- No earlier record gives the aircraft a call sign. The call sign is one that an earlier record gave, the last of them
-- in the line with this number.
pub record TellsCalled (text : List ℕ) (earlier : List (Option Record)) (of : RecordKind) (fields : List (List ℕ)) (found : List ℕ) (number : ℕ) : Type 0 where
  pub same : of ≡ kind.Call
  pub stands : found ≡ field fields 2
  pub uncalled : list_any (is_about_in (alike of fields)) earlier ≡ false
  pub at : ℕ
  pub now : Option Record
  pub is : IsLast earlier (is_called_in found) at now
  pub line : List ℕ
  pub placed : IsPlaced (file_lines text) at number line

abbrev pub TellsRepeat : List ℕ → List (Option Record) → RecordKind → List (List ℕ) → Why → Type 0
TellsRepeat text earlier kind fields (why.Again of line number) = TellsAgain text earlier kind fields of (fields_in line.now) number
TellsRepeat text earlier kind fields (why.NotAbove of found reached number) = TellsNotAbove text earlier kind fields of found reached number
TellsRepeat text earlier kind fields (why.Called found number) = TellsCalled text earlier kind fields found.now number
TellsRepeat text earlier kind fields other = ⊥

-- The field at a place. It spells an address, which no earlier aircraft has.
pub record IsStrange (earlier : List Record) (fields : List (List ℕ)) (place : ℕ) (found : List ℕ) : Type 0 where
  pub stands : found ≡ field fields place
  pub address : ℕ
  pub spelled : address_in found ≡ Some address
  pub unknown : is_given earlier address ≡ false

pub record TellsStranger (earlier : List Record) (kind : RecordKind) (fields : List (List ℕ)) (place : ℕ) (name : FieldName) (found : List ℕ) : Type 0 where
  pub called : slice_get (names_of kind) (place - 1) ≡ Some name
  pub strange : IsStrange earlier fields place found

-- The first of two equal addresses, which an earlier aircraft has.
pub record TellsEqual (earlier : List Record) (fields : List (List ℕ)) (found : List ℕ) : Type 0 where
  pub stands : found ≡ field fields 1
  pub address : ℕ
  pub first : address_in found ≡ Some address
  pub second : address_in (field fields 2) ≡ Some address
  pub known : is_given earlier address ≡ true

-- The leftmost unknown address; or, where all are known, two equal ones.
abbrev pub TellsUnknown : List Record → RecordKind → List (List ℕ) → Why → Type 0
TellsUnknown earlier kind fields (why.Unknown name found) =
    TellsStranger earlier kind fields 1 name found.now ⊎ (TellsStranger earlier kind fields 2 name found.now × (is_stranger earlier fields 1 ≡ false))
TellsUnknown earlier kind fields (why.Equal found) = TellsEqual earlier fields found.now
TellsUnknown earlier kind fields other = ⊥

-- One aircraft too many. At the end: no run; or, where there is one, no profile that is needed; or else nobody active.
abbrev pub TellsCounted : List Record → RecordKind → Why → Type 0
TellsCounted earlier of (why.ManyCrafts version) = (of ≡ kind.Craft) × (version ≡ version_of earlier) × (most_crafts version ≤ length (crafts_of earlier))
TellsCounted earlier of why.NoRun = (of ≡ kind.End) × (run_of earlier ≡ None)
TellsCounted earlier of why.NoProfile = (of ≡ kind.End) × (is_some (run_of earlier) ≡ true) × (lacks_profile earlier ≡ true)
TellsCounted earlier of why.NoneActive = (of ≡ kind.End) × (is_some (run_of earlier) ≡ true) × (lacks_profile earlier ≡ false) × (list_any is_active (crafts_of earlier) ≡ false)
TellsCounted earlier of other = ⊥
