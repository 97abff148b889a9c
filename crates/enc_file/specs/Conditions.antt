-- The faults of a record as the rules state them: one condition for each code. A condition looks at the fields that it
-- is about and at what the earlier records say. It doesn't matter what else is wrong with the record.
use Rattle.std.specs.Prelude.{◌≡◌, ℕ, ◌+◌, ◌==◌, ◌<◌, ◌&&◌, ◌||◌, not, nat_le, nat_lt, if◌then◌else◌, Bool, true, false, pos, neg_ℤ, List, [], ◌∷◌, ◌++◌, length, find, codes, Option, Some, None, is_none, is_some, count_ones, slice_get, take, Result, Ok}
use Rattle.std.specs.List.{list_any}
use Rattle.std.specs.Str.{bytes_eq}
use Rattle.acas_base.specs.Encounter.{is_active, most_crafts}
use Rattle.acas_base.specs.declared.craft.CraftSpec.{CraftSpec}
use Rattle.enc_file.specs.Clock.{clock_in}
use Rattle.enc_file.specs.Codes.{code_number}
use Rattle.enc_file.specs.Earlier.{crafts_of, encounter_by, gains_of, has_ended, heading_of, run_of, version_of}
use Rattle.enc_file.specs.Faults.{lacks_profile}
use Rattle.flight.specs.Inside.{stays_inside}
use Rattle.enc_file.specs.Saying.{header_of, record_of, version_in}
use Rattle.enc_file.specs.Values.{address_in, copy_in, count_in, field, kind_in, label_in, mask_in, number_in, profile_in, sign_in}
use Rattle.enc_file.specs.declared.record.Addresses.{Addresses}
use Rattle.enc_file.specs.declared.record.Record.{Record}
use Rattle.enc_file.specs.declared.record.Record.TheVariants as said
use Rattle.enc_file.specs.declared.refusal.Code.{Code}
use Rattle.enc_file.specs.declared.refusal.Code.TheVariants as code
use Rattle.enc_file.specs.declared.refusal.Refusal.{Refusal}

-- The kinds of the records after the header.
pub data RecordKind : Type 0 where
  RunKind : RecordKind
  GainsKind : RecordKind
  CraftKind : RecordKind
  ClimbKind : RecordKind
  LegKind : RecordKind
  MissKind : RecordKind
  PlanKind : RecordKind
  FateKind : RecordKind
  EndKind : RecordKind
  ProfileKind : RecordKind
  NameKind : RecordKind
  ClockKind : RecordKind
  CallKind : RecordKind

abbrev pub kind_word : RecordKind → List ℕ
kind_word RunKind = codes "run"
kind_word GainsKind = codes "gains"
kind_word CraftKind = codes "craft"
kind_word ClimbKind = codes "climb"
kind_word LegKind = codes "leg"
kind_word MissKind = codes "miss"
kind_word PlanKind = codes "plan"
kind_word FateKind = codes "fate"
kind_word EndKind = codes "end"
kind_word ProfileKind = codes "profile"
kind_word NameKind = codes "name"
kind_word ClockKind = codes "clock"
kind_word CallKind = codes "call"

-- The kinds of records of a format. Formats 2 and 3 have ceilings and plans. Format 3 alone has a profile, a name, a
-- time of day and call signs.
abbrev pub kinds_of : ℕ → List RecordKind
kinds_of version =
    RunKind ∷ GainsKind ∷ CraftKind ∷ LegKind ∷ MissKind ∷ FateKind ∷ EndKind ∷ (if nat_le 2 version then ClimbKind ∷ PlanKind ∷ [] else [])
    ++ (if nat_le 3 version then ProfileKind ∷ NameKind ∷ ClockKind ∷ CallKind ∷ [] else [])

-- The kind that the first field names.
abbrev pub kind_named : ℕ → List ℕ → Option RecordKind
kind_named version name = find (λ kind. bytes_eq name (kind_word kind)) (kinds_of version)

-- How many fields a record of a kind may have. A copy has two fields, and there are none to three copies.
abbrev pub counts_of : RecordKind → List ℕ
counts_of RunKind = 3 ∷ []
counts_of GainsKind = 5 ∷ []
counts_of CraftKind = 6 ∷ []
counts_of ClimbKind = 3 ∷ []
counts_of LegKind = 6 ∷ []
counts_of MissKind = 5 ∷ []
counts_of PlanKind = 3 ∷ 5 ∷ 7 ∷ 9 ∷ []
counts_of FateKind = 4 ∷ 6 ∷ 8 ∷ 10 ∷ []
counts_of EndKind = 1 ∷ []
counts_of ProfileKind = 2 ∷ []
counts_of NameKind = 2 ∷ []
counts_of ClockKind = 2 ∷ []
counts_of CallKind = 3 ∷ []

abbrev pub is_count_wrong : RecordKind → List (List ℕ) → Bool
is_count_wrong kind fields = not (list_any (λ n. length fields == n) (counts_of kind))

-- A test of what a field says; false where it says nothing.
abbrev pub if_said : {X : Type 0} → Option X → (X → Bool) → Bool
if_said None test = false
if_said (Some x) test = test x

-- The field at a place is no number from -low to high. For `no_count` it is no number from low to high.
abbrev pub no_number : List (List ℕ) → ℕ → ℕ → ℕ → Bool
no_number fields place low high = is_none (number_in (neg_ℤ (pos low)) (pos high) (field fields place))

abbrev pub no_count : List (List ℕ) → ℕ → ℕ → ℕ → Bool
no_count fields place low high = is_none (count_in low high (field fields place))

-- Two fields say cycles, and the second cycle is before the first.
abbrev pub is_turned : List (List ℕ) → ℕ → ℕ → Bool
is_turned fields first second = if_said (count_in 1 600 (field fields first)) (λ from. if_said (count_in 1 600 (field fields second)) (λ to. nat_lt to from))

-- There are two fields from a place on, and they aren't a HOLD and a MASK.
abbrev pub no_copy_at : List (List ℕ) → ℕ → Bool
no_copy_at fields place = nat_lt (place + 1) (length fields) && is_none (copy_in (field fields place) (field fields (place + 1)))

-- The same of the three copies from a place on.
abbrev pub no_copies : List (List ℕ) → ℕ → Bool
no_copies fields place = no_copy_at fields place || (no_copy_at fields (place + 2) || no_copy_at fields (place + 4))

-- A number, the kind of an aircraft, a mask, a name, a time of day or a call sign is wrong, or TO is below FROM.
abbrev pub is_number_wrong : RecordKind → List (List ℕ) → Bool
is_number_wrong RunKind fields = no_count fields 1 1 600 || no_number fields 2 1000 15000
is_number_wrong GainsKind fields = no_count fields 1 0 1024 || (no_count fields 2 0 1024 || (no_count fields 3 0 1024 || no_count fields 4 0 1024))
is_number_wrong CraftKind fields = is_none (kind_in (field fields 2)) || (no_number fields 3 1000000 1000000 || (no_number fields 4 1000000 1000000 || no_number fields 5 1000 60000))
is_number_wrong ClimbKind fields = no_number fields 2 1000 60000
is_number_wrong LegKind fields = no_count fields 2 1 600 || (no_number fields 3 2000 2000 || (no_number fields 4 2000 2000 || no_number fields 5 10000 10000))
is_number_wrong MissKind fields = no_count fields 3 1 600 || (no_count fields 4 1 600 || is_turned fields 3 4)
is_number_wrong PlanKind fields = no_copies fields 3
is_number_wrong FateKind fields = no_count fields 3 1 600 || no_copies fields 4
is_number_wrong EndKind fields = false
is_number_wrong ProfileKind fields = is_none (profile_in (field fields 1))
is_number_wrong NameKind fields = is_none (label_in (field fields 1))
is_number_wrong ClockKind fields = is_none (clock_in (field fields 1))
is_number_wrong CallKind fields = is_none (sign_in (field fields 2))

-- The field at a place is no address.
abbrev pub no_address : List (List ℕ) → ℕ → Bool
no_address fields place = is_none (address_in (field fields place))

abbrev pub no_pair : List (List ℕ) → Bool
no_pair fields = no_address fields 1 || no_address fields 2

abbrev pub is_address_wrong : RecordKind → List (List ℕ) → Bool
is_address_wrong CraftKind fields = no_address fields 1
is_address_wrong ClimbKind fields = no_address fields 1
is_address_wrong LegKind fields = no_address fields 1
is_address_wrong MissKind fields = no_pair fields
is_address_wrong PlanKind fields = no_pair fields
is_address_wrong FateKind fields = no_pair fields
is_address_wrong CallKind fields = no_address fields 1
is_address_wrong other fields = false

-- An aircraft with this address was given. For `has_climb` it also has a ceiling.
abbrev pub is_given : List Record → ℕ → Bool
is_given earlier address = list_any (λ (craft : CraftSpec). craft.address == address) (crafts_of earlier)

abbrev pub has_climb : List Record → ℕ → Bool
has_climb earlier address = list_any (λ (craft : CraftSpec). craft.address == address && is_some craft.ceiling) (crafts_of earlier)

-- A call sign of this aircraft, and this call sign.
abbrev pub is_call_for : ℕ → Record → Bool
is_call_for address (said.Call other sign) = other == address
is_call_for address other = false

abbrev pub is_call_by : List ℕ → Record → Bool
is_call_by sign (said.Call address other) = bytes_eq other sign
is_call_by sign other = false

-- The same two addresses, in the same order.
abbrev pub is_same_pair : Addresses → Addresses → Bool
is_same_pair a b = a.first == b.first && a.second == b.second

-- A leg of this aircraft that begins in this cycle or later.
abbrev pub is_leg_since : ℕ → ℕ → Record → Bool
is_leg_since address from (said.Leg other course) = other == address && nat_le from course.from
is_leg_since address from other = false

-- A miss of this pair that lasts to this cycle or longer.
abbrev pub is_miss_until : Addresses → ℕ → Record → Bool
is_miss_until pair from (said.Miss other first last) = is_same_pair other pair && nat_le from last
is_miss_until pair from other = false

-- A plan of this pair.
abbrev pub is_plan_for : Addresses → Record → Bool
is_plan_for pair (said.Plan other copies) = is_same_pair other pair
is_plan_for pair other = false

-- A fate of this pair with this number or a greater one.
abbrev pub is_fate_since : Addresses → ℕ → Record → Bool
is_fate_since pair number (said.Fate other n copies) = is_same_pair other pair && nat_le number n
is_fate_since pair number other = false

-- A test of the two addresses after the kind.
abbrev pub if_pair : List (List ℕ) → (Addresses → Bool) → Bool
if_pair fields test = if_said (address_in (field fields 1)) (λ first. if_said (address_in (field fields 2)) (λ second. test (record { first = first; second = second })))

-- The record gives what was given before, or it doesn't come after what was given before.
abbrev pub is_repeat : List Record → RecordKind → List (List ℕ) → Bool
is_repeat earlier RunKind fields = is_some (run_of earlier)
is_repeat earlier GainsKind fields = is_some (gains_of earlier)
is_repeat earlier CraftKind fields = if_said (address_in (field fields 1)) (is_given earlier)
is_repeat earlier ClimbKind fields = if_said (address_in (field fields 1)) (has_climb earlier)
is_repeat earlier LegKind fields = if_said (address_in (field fields 1)) (λ address. if_said (count_in 1 600 (field fields 2)) (λ from. list_any (is_leg_since address from) earlier))
is_repeat earlier MissKind fields = if_pair fields (λ pair. if_said (count_in 1 600 (field fields 3)) (λ from. list_any (is_miss_until pair from) earlier))
is_repeat earlier PlanKind fields = if_pair fields (λ pair. list_any (is_plan_for pair) earlier)
is_repeat earlier FateKind fields = if_pair fields (λ pair. if_said (count_in 1 600 (field fields 3)) (λ number. list_any (is_fate_since pair number) earlier))
is_repeat earlier EndKind fields = false
is_repeat earlier ProfileKind fields = is_some (heading_of earlier).profile
is_repeat earlier NameKind fields = is_some (heading_of earlier).name
is_repeat earlier ClockKind fields = is_some (heading_of earlier).clock
is_repeat earlier CallKind fields =
    if_said (address_in (field fields 1)) (λ address. list_any (is_call_for address) earlier) || if_said (sign_in (field fields 2)) (λ sign. list_any (is_call_by sign) earlier)

-- The address at a place names no earlier aircraft.
abbrev pub is_stranger : List Record → List (List ℕ) → ℕ → Bool
is_stranger earlier fields place = if_said (address_in (field fields place)) (λ address. not (is_given earlier address))

-- One of the two addresses names no earlier aircraft, or they are equal.
abbrev pub is_pair_unknown : List Record → List (List ℕ) → Bool
is_pair_unknown earlier fields = is_stranger earlier fields 1 || (is_stranger earlier fields 2 || if_pair fields (λ pair. pair.first == pair.second))

abbrev pub is_unknown : List Record → RecordKind → List (List ℕ) → Bool
is_unknown earlier ClimbKind fields = is_stranger earlier fields 1
is_unknown earlier LegKind fields = is_stranger earlier fields 1
is_unknown earlier MissKind fields = is_pair_unknown earlier fields
is_unknown earlier PlanKind fields = is_pair_unknown earlier fields
is_unknown earlier FateKind fields = is_pair_unknown earlier fields
is_unknown earlier CallKind fields = is_stranger earlier fields 1
is_unknown earlier other fields = false

-- One aircraft too many; at the end, no run, no profile where it is needed, or no active aircraft.
abbrev pub is_miscounted : List Record → RecordKind → List (List ℕ) → Bool
is_miscounted earlier CraftKind fields = nat_le (most_crafts (version_of earlier)) (length (crafts_of earlier))
is_miscounted earlier EndKind fields = is_none (run_of earlier) || (lacks_profile earlier || not (list_any is_active (crafts_of earlier)))
is_miscounted earlier other fields = false

-- At the end, an aircraft isn't in the box in some cycle of the run.
abbrev pub is_outside : List Record → RecordKind → List (List ℕ) → Bool
is_outside earlier EndKind fields = not (stays_inside (encounter_by earlier))
is_outside earlier other fields = false

-- The mask of the copy from a place on has more than three bits.
abbrev pub is_masked_at : List (List ℕ) → ℕ → Bool
is_masked_at fields place = nat_lt (place + 1) (length fields) && if_said (mask_in (field fields (place + 1))) (λ mask. nat_lt 3 (count_ones mask))

abbrev pub are_masked : List (List ℕ) → ℕ → Bool
are_masked fields place = is_masked_at fields place || (is_masked_at fields (place + 2) || is_masked_at fields (place + 4))

abbrev pub is_masked : RecordKind → List (List ℕ) → Bool
is_masked PlanKind fields = are_masked fields 3
is_masked FateKind fields = are_masked fields 4
is_masked other fields = false

abbrev pub is_first : List Record → Bool
is_first [] = true
is_first (last ∷ earlier) = false

-- A test of the fields of a record after the header and before the end. `if_kind` tests the record's kind and its
-- fields.
abbrev pub if_going : List Record → Option (List (List ℕ)) → (List (List ℕ) → Bool) → Bool
if_going earlier None test = false
if_going earlier (Some fields) test = not (is_first earlier || has_ended earlier) && test fields

abbrev pub if_kind : List Record → Option (List (List ℕ)) → (RecordKind → List (List ℕ) → Bool) → Bool
if_kind earlier next test = if_going earlier next (λ fields. if_said (kind_named (version_of earlier) (field fields 0)) (λ kind. test kind fields))

abbrev pub is_header : Option (List (List ℕ)) → Bool
is_header None = false
is_header (Some fields) = is_some (version_in fields)

-- The next record has a fault of this code after the earlier ones. Where there is no next record, that itself is the
-- fault.
unfoldable pub has_fault : List Record → Option (List (List ℕ)) → Code → Bool
has_fault earlier next code.Header = is_first earlier && not (is_header next)
has_fault earlier next code.Kind = if_going earlier next (λ fields. is_none (kind_named (version_of earlier) (field fields 0)))
has_fault earlier next code.Fields = if_kind earlier next is_count_wrong
has_fault earlier next code.Number = if_kind earlier next is_number_wrong
has_fault earlier next code.Address = if_kind earlier next is_address_wrong
has_fault earlier next code.Repeat = if_kind earlier next (is_repeat earlier)
has_fault earlier next code.Unknown = if_kind earlier next (is_unknown earlier)
has_fault earlier next code.Count = if_kind earlier next (is_miscounted earlier)
has_fault earlier next code.Box = if_kind earlier next (is_outside earlier)
has_fault earlier next code.Mask = if_kind earlier next is_masked
has_fault earlier next code.NoEnd = is_none next && not (has_ended earlier)
has_fault earlier next code.After = is_some next && has_ended earlier

-- There is a fault of this code, and none of a lower one.
pub record IsLowestFault (earlier : List Record) (next : Option (List (List ℕ))) (why : Code) : Type 0 where
  pub faulty : has_fault earlier next why ≡ true
  pub lowest : (other : Code) → code_number other < code_number why → has_fault earlier next other ≡ false

-- No fault.
abbrev pub HasNoFault : List Record → Option (List (List ℕ)) → Type 0
HasNoFault earlier next = (why : Code) → has_fault earlier next why ≡ false

-- What a record says by itself. The first record is the header.
abbrev pub said_by : List Record → List (List ℕ) → Result Record Code
said_by [] fields = header_of fields
said_by (last ∷ earlier) fields = record_of (version_of (last ∷ earlier)) fields

-- These records have no fault, each after those before it. `all` is what they and the earlier records say.
abbrev pub ArePassed : List Record → List (List (List ℕ)) → List Record → Type 0
ArePassed earlier [] all = earlier ≡ all
ArePassed earlier (fields ∷ rest) all = HasNoFault earlier (Some fields) × ((now : Record) × (said_by earlier fields ≡ Ok now) × ArePassed (now ∷ earlier) rest all)

-- The records are refused at one of them. The records before it have no fault. It has a fault of this code, and none of
-- a lower one.
pub record IsRefused (records : List (List (List ℕ))) (refusal : Refusal) : Type 0 where
  pub earlier : List Record
  pub passed : ArePassed [] (take (length earlier) records) earlier
  pub at : refusal.at ≡ length earlier + 1
  pub fault : IsLowestFault earlier (slice_get records (length earlier)) refusal.code
