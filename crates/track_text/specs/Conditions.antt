-- The faults of a record of tracks as the rules state them: one condition for each code. Where a record is one of an
-- encounter, the condition is that of the encounter's text.
use Rattle.std.specs.Prelude.{◌≡◌, ℕ, ℤ, ◌+◌, ◌==◌, ◌<◌, ◌&&◌, ◌||◌, not, Bool, true, false, pos, neg_ℤ, if◌then◌else◌, List, [], ◌∷◌, length, codes, Option, Some, None, option_map, is_none, is_some, slice_get, take, Result, Ok}
use Rattle.std.specs.List.{list_any}
use Rattle.std.specs.Str.{bytes_eq}
use Rattle.acas_base.specs.declared.craft.CraftSpec.{CraftSpec}
use Rattle.enc_file.specs.Conditions as enc
use Rattle.enc_file.specs.Conditions.{CraftKind, RecordKind, if_going, if_said, is_first, is_stranger, no_address, no_number}
use Rattle.enc_file.specs.Earlier.{crafts_of, for_index, has_ended, version_of}
use Rattle.enc_file.specs.Faults.{holds}
use Rattle.enc_file.specs.Spelling.{end_record}
use Rattle.enc_file.specs.Values.{address_in, field, kind_in, number_in}
use Rattle.enc_file.specs.declared.refusal.Code.{Code}
use Rattle.enc_file.specs.declared.refusal.Code.TheVariants as code
use Rattle.track_file.specs.Along.{IsFaultOf, craft_at}
use Rattle.track_file.specs.Track.{is_from}
use Rattle.track_text.specs.Codes.{fault_number}
use Rattle.track_text.specs.Earlier.{cycles_of, shared_of, track_of, tracks_of}
use Rattle.track_text.specs.Saying.{header_of, record_of, version_in}
use Rattle.track_text.specs.declared.record.TrackRecord.{TrackRecord}
use Rattle.track_text.specs.declared.refusal.Fault.{Fault}
use Rattle.track_text.specs.declared.refusal.Fault.TheVariants.{Text, Track}
use Rattle.track_text.specs.declared.refusal.Refusal.{Refusal}

-- The kinds of the records after the header: a point, and those of the encounter but the leg.
pub data TrackKind : Type 0 where
  PointKind : TrackKind
  SharedKind : RecordKind → TrackKind

-- The kind that the first field names, where the header stands for this version of the encounter.
abbrev pub kind_named : ℕ → List ℕ → Option TrackKind
kind_named version name =
    if bytes_eq name (codes "at") then Some PointKind else
    if bytes_eq name (codes "leg") then None else option_map SharedKind (enc.kind_named version name)

-- A point has six fields, and an aircraft three.
abbrev pub is_count_wrong : TrackKind → List (List ℕ) → Bool
is_count_wrong PointKind fields = not (length fields == 6)
is_count_wrong (SharedKind CraftKind) fields = not (length fields == 3)
is_count_wrong (SharedKind kind) fields = enc.is_count_wrong kind fields

abbrev pub is_number_wrong : TrackKind → List (List ℕ) → Bool
is_number_wrong PointKind fields = no_number fields 2 1000000 1000000 || (no_number fields 3 1000000 1000000 || (no_number fields 4 1000000 1000000 || no_number fields 5 60000 3600000))
is_number_wrong (SharedKind CraftKind) fields = is_none (kind_in (field fields 2))
is_number_wrong (SharedKind kind) fields = enc.is_number_wrong kind fields

abbrev pub is_address_wrong : TrackKind → List (List ℕ) → Bool
is_address_wrong PointKind fields = no_address fields 1
is_address_wrong (SharedKind kind) fields = enc.is_address_wrong kind fields

-- The aircraft with an address has a point at a time or after it.
abbrev pub has_point_since : List TrackRecord → ℕ → ℤ → Bool
has_point_since earlier address ms = holds (for_index (crafts_of (shared_of earlier)) address (λ craft. list_any (is_from ms) (track_of craft earlier)))

-- The record gives what was given before, or it doesn't come after what was given before.
abbrev pub is_repeat : List TrackRecord → TrackKind → List (List ℕ) → Bool
is_repeat earlier PointKind fields = if_said (address_in (field fields 1)) (λ address. if_said (number_in (neg_ℤ (pos 1000000)) (pos 1000000) (field fields 2)) (has_point_since earlier address))
is_repeat earlier (SharedKind kind) fields = enc.is_repeat (shared_of earlier) kind fields

abbrev pub is_unknown : List TrackRecord → TrackKind → List (List ℕ) → Bool
is_unknown earlier PointKind fields = is_stranger (shared_of earlier) fields 1
is_unknown earlier (SharedKind kind) fields = enc.is_unknown (shared_of earlier) kind fields

abbrev pub is_miscounted : List TrackRecord → TrackKind → List (List ℕ) → Bool
is_miscounted earlier PointKind fields = false
is_miscounted earlier (SharedKind kind) fields = enc.is_miscounted (shared_of earlier) kind fields

abbrev pub is_masked : TrackKind → List (List ℕ) → Bool
is_masked PointKind fields = false
is_masked (SharedKind kind) fields = enc.is_masked kind fields

-- A test of the kind and the fields of a record after the header and before the end.
abbrev pub if_kind : List TrackRecord → Option (List (List ℕ)) → (TrackKind → List (List ℕ) → Bool) → Bool
if_kind earlier next test = if_going (shared_of earlier) next (λ fields. if_said (kind_named (version_of (shared_of earlier)) (field fields 0)) (λ kind. test kind fields))

abbrev pub is_headed : Option (List (List ℕ)) → Bool
is_headed None = false
is_headed (Some fields) = is_some (version_in fields)

-- The next record has a fault of this code after the earlier ones, one that the text of an encounter can have, too.
-- Where there is no next record, that itself is the fault. No aircraft is outside the box.
unfoldable pub has_text_fault : List TrackRecord → Option (List (List ℕ)) → Code → Bool
has_text_fault earlier next code.Header = is_first (shared_of earlier) && not (is_headed next)
has_text_fault earlier next code.Kind = if_going (shared_of earlier) next (λ fields. is_none (kind_named (version_of (shared_of earlier)) (field fields 0)))
has_text_fault earlier next code.Fields = if_kind earlier next is_count_wrong
has_text_fault earlier next code.Number = if_kind earlier next is_number_wrong
has_text_fault earlier next code.Address = if_kind earlier next is_address_wrong
has_text_fault earlier next code.Repeat = if_kind earlier next (is_repeat earlier)
has_text_fault earlier next code.Unknown = if_kind earlier next (is_unknown earlier)
has_text_fault earlier next code.Count = if_kind earlier next (is_miscounted earlier)
has_text_fault earlier next code.Box = false
has_text_fault earlier next code.Mask = if_kind earlier next is_masked
has_text_fault earlier next code.NoEnd = is_none next && not (has_ended (shared_of earlier))
has_text_fault earlier next code.After = is_some next && has_ended (shared_of earlier)

-- The address of the aircraft with an index.
abbrev pub address_at : List CraftSpec → ℕ → Option ℕ
address_at crafts index = option_map (λ (craft : CraftSpec). craft.address) (slice_get crafts index)

-- The next record has this fault. At the end, the aircraft can't fly along their tracks.
abbrev pub HasFault : List TrackRecord → Option (List (List ℕ)) → Fault → Type 0
HasFault earlier next (Text why) = has_text_fault earlier next why ≡ true
HasFault earlier next (Track fault address) =
    (next ≡ Some end_record) × IsFaultOf (cycles_of earlier) (tracks_of earlier) fault × (address_at (crafts_of (shared_of earlier)) (craft_at fault) ≡ Some address)

-- There is this fault, and none with a lower number.
pub record IsLowestFault (earlier : List TrackRecord) (next : Option (List (List ℕ))) (why : Fault) : Type 0 where
  pub faulty : HasFault earlier next why
  pub lowest : (other : Fault) → fault_number other < fault_number why → HasFault earlier next other → ⊥

abbrev pub HasNoFault : List TrackRecord → Option (List (List ℕ)) → Type 0
HasNoFault earlier next = (why : Fault) → HasFault earlier next why → ⊥

-- What a record says by itself. The first record is the header.
abbrev pub said_by : List TrackRecord → List (List ℕ) → Result TrackRecord Code
said_by [] fields = header_of fields
said_by (last ∷ earlier) fields = record_of (version_of (shared_of (last ∷ earlier))) fields

-- These records have no fault, each after those before it. `all` is what they and the earlier records say.
abbrev pub ArePassed : List TrackRecord → List (List (List ℕ)) → List TrackRecord → Type 0
ArePassed earlier [] all = earlier ≡ all
ArePassed earlier (fields ∷ rest) all = HasNoFault earlier (Some fields) × ((now : TrackRecord) × (said_by earlier fields ≡ Ok now) × ArePassed (now ∷ earlier) rest all)

-- The records are refused at one of them. The records before it have no fault. It has this fault, and none with a lower
-- number.
pub record IsRefused (records : List (List (List ℕ))) (refusal : Refusal) : Type 0 where
  pub earlier : List TrackRecord
  pub passed : ArePassed [] (take (length earlier) records) earlier
  pub at : refusal.at ≡ length earlier + 1
  pub fault : IsLowestFault earlier (slice_get records (length earlier)) refusal.fault
