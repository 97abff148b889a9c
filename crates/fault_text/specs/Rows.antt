-- What the records before a refused one say. Each says a record of an encounter, or something else, as a point of
-- recorded tracks does. In a list of what records say the newest stands first.
use Rattle.std.specs.Prelude.{◌≡◌, ℕ, ◌+◌, nat_lt, Bool, true, false, List, [], ◌∷◌, codes, length, take, Option, Some, None}
use Rattle.std.specs.Str.{bytes_eq}
use Rattle.enc_file.specs.Conditions.{is_repeat}
use Rattle.enc_file.specs.Records.{records_of}
use Rattle.enc_file.specs.Values.{address_in, count_in, field}
use Rattle.enc_file.specs.declared.record.Record.{Record}
use Rattle.enc_file.specs.declared.record.Record.TheVariants as said
use Rattle.fault_text.specs.Names.{stated_kind, word_text}
use Rattle.fault_text.specs.declared.names.RecordKind.{RecordKind}
use Rattle.fault_text.specs.declared.names.RecordKind.TheVariants as kind

-- The records of an encounter among them.
abbrev pub records_in : List (Option Record) → List Record
records_in [] = []
records_in (None ∷ earlier) = records_in earlier
records_in (Some now ∷ earlier) = now ∷ records_in earlier

-- The word of a record.
abbrev pub word_said : Record → List ℕ
word_said (said.Header version) = codes "encounter"
word_said (said.Run run) = codes "run"
word_said (said.Gains gains) = codes "gains"
word_said (said.Craft craft) = codes "craft"
word_said (said.Climb address limit) = codes "climb"
word_said (said.Leg address course) = codes "leg"
word_said (said.Miss pair from to) = codes "miss"
word_said (said.Plan pair copies) = codes "plan"
word_said (said.Fate pair number copies) = codes "fate"
word_said said.End = codes "end"
word_said (said.Profile profile) = codes "profile"
word_said (said.Name text) = codes "name"
word_said (said.Clock second) = codes "clock"
word_said (said.Call address sign) = codes "call"

-- The addresses, the numbers and the call sign that a record says, as its fields spell them.
abbrev pub SaysPair : List (List ℕ) → ℕ → ℕ → Type 0
SaysPair row first second = (address_in (field row 1) ≡ Some first) × (address_in (field row 2) ≡ Some second)

abbrev pub Says : List (List ℕ) → Record → Type 0
Says row (said.Craft craft) = (address_in (field row 1) ≡ Some craft.address) × (craft.ceiling ≡ None)
Says row (said.Climb address limit) = address_in (field row 1) ≡ Some address
Says row (said.Leg address course) = (address_in (field row 1) ≡ Some address) × (count_in 1 600 (field row 2) ≡ Some course.from)
Says row (said.Miss pair from to) = SaysPair row pair.first pair.second × (count_in 1 600 (field row 3) ≡ Some from) × (count_in 1 600 (field row 4) ≡ Some to) × (nat_lt to from ≡ false)
Says row (said.Plan pair copies) = SaysPair row pair.first pair.second
Says row (said.Fate pair number copies) = SaysPair row pair.first pair.second × (count_in 1 600 (field row 3) ≡ Some number)
Says row (said.Call address sign) = (address_in (field row 1) ≡ Some address) × (field row 2 ≡ sign)
Says row other = Unit {0}

-- Each record of these kinds about an aircraft or pair has to exceed the one before.
abbrev pub rises : RecordKind → Bool
rises kind.Leg = true
rises kind.Miss = true
rises kind.Fate = true
rises other = false

-- The first field of a row names no kind of record of an encounter.
abbrev pub IsNoKind : List (List ℕ) → Type 0
IsNoKind row = (of : RecordKind) → bytes_eq (field row 0) (word_text of) ≡ false

-- A row says a record. One of a kind that rises repeats no earlier one.
pub record IsRow (older : List (Option Record)) (row : List (List ℕ)) (now : Record) : Type 0 where
  pub word : field row 0 ≡ word_said now
  pub says : Says row now
  pub fine : (of : RecordKind) → rises of ≡ true → word_text of ≡ field row 0 → is_repeat (records_in older) (stated_kind of) row ≡ false

-- A header may be that of another text.
abbrev pub SaysRecord : List (Option Record) → List (List ℕ) → Record → Type 0
SaysRecord older row (said.Header version) = IsNoKind row
SaysRecord older row other = IsRow older row other

abbrev pub SaysRow : List (Option Record) → List (List ℕ) → Option Record → Type 0
SaysRow older row None = IsNoKind row
SaysRow older row (Some now) = SaysRecord older row now

-- Rows say these things, each after those before it. `all` is what they and the rows before them say.
abbrev pub AreSaid : {X : Type 0} → (List X → List (List ℕ) → X → Type 0) → List X → List (List (List ℕ)) → List X → Type 0
AreSaid P before [] all = before ≡ all
AreSaid {X} P before (row ∷ rows) all = (now : X) × P before row now × AreSaid P (now ∷ before) rows all

-- The records before the one with a number say these things.
pub record AreBefore {X : Type 0} (P : List X → List (List ℕ) → X → Type 0) (text : List ℕ) (at : ℕ) (earlier : List X) : Type 0 where
  pub said : AreSaid P [] (take (length earlier) (records_of text)) earlier
  pub number : at ≡ length earlier + 1
