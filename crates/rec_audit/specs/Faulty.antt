-- Which field of an entry's line is wrong.
use Rattle.std.specs.Prelude.{◌≡◌, ◌≢◌, ◌⊎◌, ℕ, ◌+◌, ◌-◌, ◌<◌, ◌^◌, ◌==◌, if◌then◌else◌, Bool, List, [], ◌∷◌, length, drop, Option, Some, slice_get}
use Rattle.std.specs.Fmt.{decimal}
use Rattle.acas_base.specs.declared.advisory.Cell.{Cell}
use Rattle.acas_base.specs.declared.advisory.Cell.TheVariants.{Clear}
use Rattle.acas_text.specs.Decimal.{IsWithin}
use Rattle.acas_text.specs.Hex.{hex}
use Rattle.advisory_report.specs.Cells.{cell_text}
use Rattle.air_journal.specs.Ranges.{IsCell}
use Rattle.rec_audit.specs.Fields.{fields_of}
use Rattle.rec_text.specs.Entries.{outcome}
use Rattle.verdict_text.specs.Sentences.{letter_of}
use Rattle.verdict_text.specs.declared.fault.Why.{Why}
use Rattle.verdict_text.specs.declared.fault.Why.TheVariants as why
use Rattle.verdict_text.specs.declared.spelling.EntryField.{EntryField}
use Rattle.verdict_text.specs.declared.spelling.EntryField.TheVariants as field
use Rattle.verdict_text.specs.declared.spelling.EntryKind.{EntryKind}
use Rattle.verdict_text.specs.declared.spelling.EntryKind.TheVariants as kind

-- A plain decimal of a range.
abbrev pub IsDecimal : ℕ → ℕ → List ℕ → Type 0
IsDecimal low high text = (n : ℕ) × IsWithin low high n × (text ≡ decimal n)

abbrev pub IsWord : List ℕ → Type 0
IsWord text = (n : ℕ) × (n < 16 ^ 14) × (text ≡ hex 14 n)

abbrev pub IsOutcome : List ℕ → Type 0
IsOutcome text = (good : Bool) × (text ≡ outcome good)

abbrev pub IsCellText : List ℕ → Type 0
IsCellText text = (cell : Cell) × IsCell cell × (text ≡ cell_text cell)

-- What has to stand in a field, in an encounter of `count` aircraft.
abbrev pub IsValue : ℕ → EntryField → List ℕ → Type 0
IsValue count field.Own text = IsDecimal 0 (count - 1) text
IsValue count field.Cycle text = IsDecimal 1 600 text
IsValue count field.Target text = IsDecimal 0 (count - 1) text
IsValue count field.Number text = IsDecimal 1 600 text
IsValue count field.Word text = IsWord text
IsValue count field.Position text = IsDecimal 0 4294967295 text
IsValue count field.Copy text = IsDecimal 0 2 text
IsValue count field.Outcome text = IsOutcome text
IsValue count (field.Cell other) text = IsCellText text
IsValue count (field.OwnCell own) text = text ≡ cell_text Clear

-- The fields behind the first one, by their places from 0. `own` is the aircraft that commits.
abbrev pub cell_at_place : ℕ → ℕ → EntryField
cell_at_place own other = if other == own then field.OwnCell own else field.Cell other

abbrev pub commit_field : ℕ → ℕ → EntryField
commit_field own place = if place == 0 then field.Own else if place == 1 then field.Cycle else cell_at_place own (place - 2)

abbrev pub send_field : ℕ → EntryField
send_field place = if place == 0 then field.Own else if place == 1 then field.Target else if place == 2 then field.Number else field.Word

abbrev pub take_field : ℕ → EntryField
take_field place = if place == 0 then field.Own else if place == 1 then field.Position else if place == 2 then field.Copy else field.Outcome

abbrev pub field_at : EntryKind → ℕ → ℕ → EntryField
field_at kind.Commit own place = commit_field own place
field_at kind.Send own place = send_field place
field_at kind.Take own place = take_field place

-- How many fields a line of this kind has, with the first one.
abbrev pub field_count : EntryKind → ℕ → ℕ
field_count kind.Commit count = 3 + count
field_count kind.Send count = 5
field_count kind.Take count = 5

-- All these fields are right. The first of them has this place.
abbrev pub AreRight : ℕ → EntryKind → ℕ → ℕ → List (List ℕ) → Type 0
AreRight count of own place [] = Unit {0}
AreRight count of own place (text ∷ later) = IsValue count (field_at of own place) text × AreRight count of own (place + 1) later

-- The leftmost of these fields that isn't right, by its name.
abbrev pub IsLeftmost : ℕ → EntryKind → ℕ → ℕ → List (List ℕ) → EntryField → List ℕ → Type 0
IsLeftmost count of own place [] name found = ⊥
IsLeftmost count of own place (text ∷ later) name found =
    ((IsValue count (field_at of own place) text → ⊥) × (name ≡ field_at of own place) × (found ≡ text)) ⊎ (IsValue count (field_at of own place) text × IsLeftmost count of own (place + 1) later name found)

pub record TellsField (count : ℕ) (of : EntryKind) (fields : List (List ℕ)) (name : EntryField) (found : List ℕ) : Type 0 where
  pub own : ℕ
  pub own_is : (n : ℕ) → n < count → slice_get fields 1 ≡ Some (decimal n) → own ≡ n
  pub leftmost : IsLeftmost count of own 0 (drop 1 fields) name found

-- The first field names this kind.
abbrev pub IsNamed : EntryKind → List (List ℕ) → Type 0
IsNamed of fields = slice_get fields 0 ≡ Some (letter_of of)

-- The first field names no kind.
abbrev pub NamesNone : List (List ℕ) → List ℕ → Type 0
NamesNone fields found = (slice_get fields 0 ≡ Some found) × ((of : EntryKind) → found ≢ letter_of of)

-- What is wrong with the fields of an entry's line, in an encounter of `count` aircraft: the first field; or else their
-- number; or else the leftmost one that isn't right.
abbrev pub TellsForm : ℕ → List (List ℕ) → Why → Type 0
TellsForm count fields (why.NoKind f) = NamesNone fields f.now
TellsForm count fields (why.FieldCount of crafts number) = IsNamed of fields × (crafts ≡ count) × (number ≡ length fields) × (number ≢ field_count of count)
TellsForm count fields (why.NoValue name crafts f) = (of : EntryKind) × IsNamed of fields × (crafts ≡ count) × (length fields ≡ field_count of count) × TellsField count of fields name f.now
TellsForm count fields other = ⊥
