-- The fields of the records, by name, and what has to stand in them.
use Rattle.std.specs.Prelude.{ℕ, nat_lt, Bool, false, pos, neg_ℤ, List, [], ◌∷◌, codes, count_ones, find, option_map, Option, is_none}
use Rattle.std.specs.List.{zip}
use Rattle.enc_file.specs.Conditions as stated
use Rattle.enc_file.specs.Conditions.{if_said}
use Rattle.enc_file.specs.Clock.{clock_in}
use Rattle.enc_file.specs.Values.{address_in, kind_in, label_in, mask_in, number_in, profile_in, sign_in}
use Rattle.enc_file.specs.declared.refusal.Code.{Code}
use Rattle.enc_file.specs.declared.refusal.Code.TheVariants as code
use Rattle.fault_text.specs.declared.names.Content.{Content}
use Rattle.fault_text.specs.declared.names.Content.TheVariants as content
use Rattle.fault_text.specs.declared.names.FieldName.{FieldName}
use Rattle.fault_text.specs.declared.names.FieldName.TheVariants as name
use Rattle.fault_text.specs.declared.names.RecordKind.{RecordKind}
use Rattle.fault_text.specs.declared.names.RecordKind.TheVariants as kind

abbrev pub word_text : RecordKind → List ℕ
word_text kind.Run = codes "run"
word_text kind.Gains = codes "gains"
word_text kind.Craft = codes "craft"
word_text kind.Climb = codes "climb"
word_text kind.Leg = codes "leg"
word_text kind.Miss = codes "miss"
word_text kind.Plan = codes "plan"
word_text kind.Fate = codes "fate"
word_text kind.End = codes "end"
word_text kind.Profile = codes "profile"
word_text kind.Name = codes "name"
word_text kind.Clock = codes "clock"
word_text kind.Call = codes "call"

-- A kind of record, as the conditions of the codes name it.
abbrev pub stated_kind : RecordKind → stated.RecordKind
stated_kind kind.Run = stated.RunKind
stated_kind kind.Gains = stated.GainsKind
stated_kind kind.Craft = stated.CraftKind
stated_kind kind.Climb = stated.ClimbKind
stated_kind kind.Leg = stated.LegKind
stated_kind kind.Miss = stated.MissKind
stated_kind kind.Plan = stated.PlanKind
stated_kind kind.Fate = stated.FateKind
stated_kind kind.End = stated.EndKind
stated_kind kind.Profile = stated.ProfileKind
stated_kind kind.Name = stated.NameKind
stated_kind kind.Clock = stated.ClockKind
stated_kind kind.Call = stated.CallKind

abbrev pub stated_kinds : Option RecordKind → Option stated.RecordKind
stated_kinds found = option_map stated_kind found

abbrev pub name_text : FieldName → List ℕ
name_text name.Cycles = codes "CYCLES"
name_text name.Ground = codes "GROUND"
name_text name.Alpha = codes "ALPHA"
name_text name.Beta = codes "BETA"
name_text name.Address = codes "ADDRESS"
name_text name.Kind = codes "KIND"
name_text name.X = codes "X"
name_text name.Y = codes "Y"
name_text name.Alt = codes "ALT"
name_text name.Limit = codes "LIMIT"
name_text name.From = codes "FROM"
name_text name.Vx = codes "VX"
name_text name.Vy = codes "VY"
name_text name.Vz = codes "VZ"
name_text name.Own = codes "OWN"
name_text name.Target = codes "TARGET"
name_text name.To = codes "TO"
name_text name.Sender = codes "SENDER"
name_text name.Receiver = codes "RECEIVER"
name_text name.Number = codes "NUMBER"
name_text name.Hold = codes "HOLD"
name_text name.Mask = codes "MASK"
name_text name.Profile = codes "NUMBER"
name_text name.Label = codes "TEXT"
name_text name.Clock = codes "HH:MM:SS"
name_text name.Sign = codes "NAME"
name_text name.Ms = codes "MS"
name_text name.Z = codes "Z"

-- A number from `low` to `high`, or from `-low` to `high`.
abbrev pub up_from : ℕ → ℕ → Content
up_from low high = content.Whole (pos low) (pos high)

abbrev pub around : ℕ → ℕ → Content
around low high = content.Whole (neg_ℤ (pos low)) (pos high)

abbrev pub content_of : FieldName → Content
content_of name.Cycles = up_from 1 600
content_of name.Ground = around 1000 15000
content_of name.Alpha = up_from 0 1024
content_of name.Beta = up_from 0 1024
content_of name.Address = content.Address
content_of name.Kind = content.Kind
content_of name.X = around 1000000 1000000
content_of name.Y = around 1000000 1000000
content_of name.Alt = around 1000 60000
content_of name.Limit = around 1000 60000
content_of name.From = up_from 1 600
content_of name.Vx = around 2000 2000
content_of name.Vy = around 2000 2000
content_of name.Vz = around 10000 10000
content_of name.Own = content.Address
content_of name.Target = content.Address
content_of name.To = up_from 1 600
content_of name.Sender = content.Address
content_of name.Receiver = content.Address
content_of name.Number = up_from 1 600
content_of name.Hold = up_from 0 60
content_of name.Mask = content.Mask
content_of name.Profile = content.Profile
content_of name.Label = content.Label
content_of name.Clock = content.Clock
content_of name.Sign = content.Sign
content_of name.Ms = around 1000000 1000000
content_of name.Z = around 60000 3600000

-- The fields after the first one. Where a record has copies, the fields of three copies stand at the end.
abbrev pub copy_names : List FieldName
copy_names = name.Hold ∷ name.Mask ∷ name.Hold ∷ name.Mask ∷ name.Hold ∷ name.Mask ∷ []

abbrev pub names_of : RecordKind → List FieldName
names_of kind.Run = name.Cycles ∷ name.Ground ∷ []
names_of kind.Gains = name.Alpha ∷ name.Beta ∷ name.Alpha ∷ name.Beta ∷ []
names_of kind.Craft = name.Address ∷ name.Kind ∷ name.X ∷ name.Y ∷ name.Alt ∷ []
names_of kind.Climb = name.Address ∷ name.Limit ∷ []
names_of kind.Leg = name.Address ∷ name.From ∷ name.Vx ∷ name.Vy ∷ name.Vz ∷ []
names_of kind.Miss = name.Own ∷ name.Target ∷ name.From ∷ name.To ∷ []
names_of kind.Plan = name.Sender ∷ name.Receiver ∷ copy_names
names_of kind.Fate = name.Sender ∷ name.Receiver ∷ name.Number ∷ copy_names
names_of kind.End = []
names_of kind.Profile = name.Profile ∷ []
names_of kind.Name = name.Label ∷ []
names_of kind.Clock = name.Clock ∷ []
names_of kind.Call = name.Address ∷ name.Sign ∷ []

-- A field fails its part of a code's condition. In a record it is asked together with its name.
abbrev pub no_value : Content → List ℕ → Bool
no_value (content.Whole low high) found = is_none (number_in low high found)
no_value content.Kind found = is_none (kind_in found)
no_value content.Mask found = is_none (mask_in found)
no_value content.Profile found = is_none (profile_in found)
no_value content.Label found = is_none (label_in found)
no_value content.Clock found = is_none (clock_in found)
no_value content.Sign found = is_none (sign_in found)
no_value content.Address found = false

abbrev pub no_address : Content → List ℕ → Bool
no_address content.Address found = is_none (address_in found)
no_address other found = false

abbrev pub many_bits : Content → List ℕ → Bool
many_bits content.Mask found = if_said (mask_in found) (λ mask. nat_lt 3 (count_ones mask))
many_bits other found = false

abbrev pub fails : Code → FieldName → List ℕ → Bool
fails code.Number n found = no_value (content_of n) found
fails code.Address n found = no_address (content_of n) found
fails code.Mask n found = many_bits (content_of n) found
fails other n found = false

-- The first of some named fields that fails.
abbrev pub first_failing : Code → List FieldName → List (List ℕ) → Option (FieldName × List ℕ)
first_failing why names fields = find (λ p. fails why p.0 p.1) (zip names fields)
