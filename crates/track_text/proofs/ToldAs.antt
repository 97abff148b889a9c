-- Of each record, its reading and the tests behind it tell the lowest of its faults.
use Rattle.std.proofs.Common.{◌≡◌, ℕ, Bool, true, false, ◌||◌, not, ℤ, pos, neg_ℤ, List, [], ◌∷◌, length, Option, Some, None, refl, sym, ap, ◌∙◌}
use Rattle.std.specs.Prelude.{◌==◌, codes, find, option_map, is_none, nat_le, if◌then◌else◌, Result, Ok, Err}
use Rattle.std.specs.Str.{bytes_eq}
use Rattle.std.proofs.lemmas.Bool.{both_ways, false≢true}
use Rattle.std.proofs.lemmas.Option.{none-some, same_Some}
use Rattle.std.proofs.lemmas.Slice.Eq.{bytes_eq-Decides}
use Rattle.acas_base.specs.Encounter.{most_crafts}
use Rattle.acas_base.specs.declared.craft.Kind.{Kind}
use Rattle.enc_file.specs.Conditions as enc
use Rattle.enc_file.specs.Conditions.{RecordKind, RunKind, GainsKind, CraftKind, ClimbKind, LegKind, MissKind, PlanKind, FateKind, EndKind, ProfileKind, NameKind, ClockKind, CallKind, if_said, is_first, is_given, kind_word}
use Rattle.enc_file.specs.Earlier.{crafts_of, has_ended, version_of}
use Rattle.enc_file.specs.Faults.{miscounts}
use Rattle.enc_file.specs.Reading.{checked, unless_faulty}
use Rattle.enc_file.specs.Saying as says
use Rattle.enc_file.specs.Saying.{end_of, needs}
use Rattle.enc_file.specs.Spelling.{end_record}
use Rattle.enc_file.specs.Values.{address_in, field, kind_in, number_in}
use Rattle.enc_file.specs.declared.record.Record.{Record}
use Rattle.enc_file.specs.declared.record.Record.TheVariants as said
use Rattle.enc_file.specs.declared.refusal.Code.{Code}
use Rattle.enc_file.specs.declared.refusal.Code.TheVariants as code
use Rattle.enc_file.proofs.Begun.{ends-known, record-ends}
use Rattle.enc_file.proofs.LowestCode.{lowest-same, lowest_of, or_else}
use Rattle.enc_file.proofs.Stated.{AreSound, index-stated}
use Rattle.enc_file.proofs.StatedKinds.{craft-fault, fault_by, fault_in, kind-told, read-by}
use Rattle.enc_file.proofs.StatedText.{kind-result, record-told}
use Rattle.track_text.specs.Conditions.{PointKind, SharedKind, has_point_since, has_text_fault, is_count_wrong, is_number_wrong, kind_named}
use Rattle.track_text.specs.Earlier.{is_end, shared_of}
use Rattle.track_text.specs.Saying.{as_shared, craft_of, point_of, record_of}
use Rattle.track_text.specs.Tables.{fault_of, shared_fault}
use Rattle.track_text.specs.declared.record.TrackRecord.{TrackRecord}
use Rattle.track_text.specs.declared.record.TrackRecord.TheVariants.{Shared, At}

-- What is wrong with what was read.
abbrev pub fault_after : List TrackRecord → Result TrackRecord Code → Option Code
fault_after earlier (Err why) = Some why
fault_after earlier (Ok now) = fault_of earlier now

-- Records after the header and before the end.
pub record IsGoing (earlier : List TrackRecord) : Type 0 where
  pub sound : AreSound (shared_of earlier)
  pub unended : has_ended (shared_of earlier) ≡ false
  pub some : is_first (shared_of earlier) ≡ false

abbrev IsToldAs : List TrackRecord → List (List ℕ) → Result TrackRecord Code → Type 0
IsToldAs earlier fields r = fault_after earlier r ≡ lowest_of (has_text_fault earlier (Some fields))

-- A point.
point-at : (earlier : List TrackRecord) (fits : Bool) (ms x y z : Option ℤ) (address : Option ℕ)
    → fault_after earlier (if fits then needs ms code.Number (λ a. needs x code.Number (λ b. needs y code.Number (λ c. needs z code.Number (λ d. needs address code.Address (λ n.
    Ok (At n (record { ms = a; x = b; y = c; z = d }))))))) else Err code.Fields)
    ≡ or_else (not fits) code.Fields (or_else (is_none ms || (is_none x || (is_none y || is_none z))) code.Number (or_else (is_none address) code.Address
    (or_else (if_said address (λ n. if_said ms (has_point_since earlier n))) code.Repeat (or_else (if_said address (λ n. not (is_given (shared_of earlier) n))) code.Unknown None))))
point-at earlier false ms x y z address = refl
point-at earlier true None x y z address = refl
point-at earlier true (Some a) None y z address = refl
point-at earlier true (Some a) (Some b) None z address = refl
point-at earlier true (Some a) (Some b) (Some c) None address = refl
point-at earlier true (Some a) (Some b) (Some c) (Some d) None = refl
point-at earlier true (Some a) (Some b) (Some c) (Some d) (Some n) = ap (λ b. or_else (has_point_since earlier n a) code.Repeat (or_else b code.Unknown None)) (index-stated (shared_of earlier) n)

point-told : (earlier : List TrackRecord) (fields : List (List ℕ)) → IsGoing earlier → kind_named (version_of (shared_of earlier)) (field fields 0) ≡ Some PointKind → IsToldAs earlier fields (point_of fields)
unfolding point_of has_text_fault
point-told earlier fields going named =
    rw (going.some, going.unended, named)
    (point-at earlier (length fields == 6) (number_in (neg_ℤ (pos 1000000)) (pos 1000000) (field fields 2)) (number_in (neg_ℤ (pos 1000000)) (pos 1000000) (field fields 3))
    (number_in (neg_ℤ (pos 1000000)) (pos 1000000) (field fields 4)) (number_in (neg_ℤ (pos 60000)) (pos 3600000) (field fields 5)) (address_in (field fields 1)))

-- An aircraft.
craft-at : (earlier : List TrackRecord) (fits : Bool) (kind : Option Kind) (address : Option ℕ)
    → fault_after earlier (if fits then needs kind code.Number (λ k. needs address code.Address (λ n.
    Ok (Shared (said.Craft (record { address = n; kind = k; x = pos 0; y = pos 0; alt = pos 0; ceiling = None }))))) else Err code.Fields)
    ≡ or_else (not fits) code.Fields (or_else (is_none kind) code.Number (or_else (is_none address) code.Address
    (or_else (if_said address (is_given (shared_of earlier))) code.Repeat (or_else (nat_le (most_crafts (version_of (shared_of earlier))) (length (crafts_of (shared_of earlier)))) code.Count None))))
craft-at earlier false kind address = refl
craft-at earlier true None address = refl
craft-at earlier true (Some k) None = refl
craft-at earlier true (Some k) (Some n) = craft-fault (shared_of earlier) n k (pos 0) (pos 0) (pos 0)

craft-told : (earlier : List TrackRecord) (fields : List (List ℕ)) → IsGoing earlier → kind_named (version_of (shared_of earlier)) (field fields 0) ≡ Some (SharedKind CraftKind) → IsToldAs earlier fields (craft_of fields)
unfolding craft_of has_text_fault
craft-told earlier fields going named = rw (going.some, going.unended, named) (craft-at earlier (length fields == 3) (kind_in (field fields 2)) (address_in (field fields 1)))

-- The end.
end-at : (earlier : List TrackRecord) (fits : Bool) → fault_after earlier (as_shared (if fits then Ok said.End else Err code.Fields))
    ≡ or_else (not (fits || false)) code.Fields (or_else (miscounts (shared_of earlier) said.End) code.Count None)
end-at earlier false = refl
end-at earlier true = refl

end-told : (earlier : List TrackRecord) (fields : List (List ℕ)) → IsGoing earlier → kind_named (version_of (shared_of earlier)) (field fields 0) ≡ Some (SharedKind EndKind) → IsToldAs earlier fields (as_shared (end_of fields))
unfolding end_of has_text_fault
end-told earlier fields going named = rw (going.some, going.unended, named) (end-at earlier (length fields == 1))

-- No kind.
unnamed-told : (earlier : List TrackRecord) (fields : List (List ℕ)) → IsGoing earlier → kind_named (version_of (shared_of earlier)) (field fields 0) ≡ None → IsToldAs earlier fields (Err code.Kind)
unfolding has_text_fault
unnamed-told earlier fields going named = rw (going.some, going.unended, named) refl

-- The other records that an encounter has, too.
abbrev is_plain : RecordKind → Bool
is_plain CraftKind = false
is_plain LegKind = false
is_plain EndKind = false
is_plain other = true

count-same : (kind : RecordKind) (fields : List (List ℕ)) → is_plain kind ≡ true → is_count_wrong (SharedKind kind) fields ≡ enc.is_count_wrong kind fields
count-same CraftKind fields plain = absurd (false≢true plain)
count-same RunKind fields plain = refl
count-same GainsKind fields plain = refl
count-same ClimbKind fields plain = refl
count-same LegKind fields plain = refl
count-same MissKind fields plain = refl
count-same PlanKind fields plain = refl
count-same FateKind fields plain = refl
count-same ProfileKind fields plain = refl
count-same NameKind fields plain = refl
count-same ClockKind fields plain = refl
count-same CallKind fields plain = refl
count-same EndKind fields plain = refl

number-same : (kind : RecordKind) (fields : List (List ℕ)) → is_plain kind ≡ true → is_number_wrong (SharedKind kind) fields ≡ enc.is_number_wrong kind fields
number-same CraftKind fields plain = absurd (false≢true plain)
number-same RunKind fields plain = refl
number-same GainsKind fields plain = refl
number-same ClimbKind fields plain = refl
number-same LegKind fields plain = refl
number-same MissKind fields plain = refl
number-same PlanKind fields plain = refl
number-same FateKind fields plain = refl
number-same ProfileKind fields plain = refl
number-same NameKind fields plain = refl
number-same ClockKind fields plain = refl
number-same CallKind fields plain = refl
number-same EndKind fields plain = refl

inside-same : (earlier : List Record) (kind : RecordKind) (fields : List (List ℕ)) → is_plain kind ≡ true → false ≡ enc.is_outside earlier kind fields
inside-same earlier EndKind fields plain = absurd (false≢true plain)
inside-same earlier RunKind fields plain = refl
inside-same earlier GainsKind fields plain = refl
inside-same earlier CraftKind fields plain = refl
inside-same earlier ClimbKind fields plain = refl
inside-same earlier LegKind fields plain = refl
inside-same earlier MissKind fields plain = refl
inside-same earlier PlanKind fields plain = refl
inside-same earlier FateKind fields plain = refl
inside-same earlier ProfileKind fields plain = refl
inside-same earlier NameKind fields plain = refl
inside-same earlier ClockKind fields plain = refl
inside-same earlier CallKind fields plain = refl

plain-faults : (earlier : List TrackRecord) (fields : List (List ℕ)) (kind : RecordKind) → IsGoing earlier → is_plain kind ≡ true → kind_named (version_of (shared_of earlier)) (field fields 0) ≡ Some (SharedKind kind)
    → (why : Code) → has_text_fault earlier (Some fields) why ≡ fault_by (shared_of earlier) kind fields why
unfolding has_text_fault
plain-faults earlier fields kind going plain named code.Header = rw (going.some) refl
plain-faults earlier fields kind going plain named code.Kind = rw (going.some, going.unended, named) refl
plain-faults earlier fields kind going plain named code.Fields = rw (going.some, going.unended, named) (count-same kind fields plain)
plain-faults earlier fields kind going plain named code.Number = rw (going.some, going.unended, named) (number-same kind fields plain)
plain-faults earlier fields kind going plain named code.Address = rw (going.some, going.unended, named) refl
plain-faults earlier fields kind going plain named code.Repeat = rw (going.some, going.unended, named) refl
plain-faults earlier fields kind going plain named code.Unknown = rw (going.some, going.unended, named) refl
plain-faults earlier fields kind going plain named code.Count = rw (going.some, going.unended, named) refl
plain-faults earlier fields kind going plain named code.Box = inside-same (shared_of earlier) kind fields plain
plain-faults earlier fields kind going plain named code.Mask = rw (going.some, going.unended, named) refl
plain-faults earlier fields kind going plain named code.NoEnd = refl
plain-faults earlier fields kind going plain named code.After = going.unended

fault-unless : (now : Record) (o : Option Code) → fault_in (unless_faulty now o) ≡ o
fault-unless now None = refl
fault-unless now (Some why) = refl

same-fault : (earlier : List TrackRecord) (now : Record) (b : Bool) → is_end now ≡ b → b ≡ false → shared_fault (shared_of earlier) now b ≡ fault_in (checked (shared_of earlier) (Ok now))
same-fault earlier now true is not-end = absurd (false≢true (sym not-end))
same-fault earlier now false is not-end = sym (fault-unless now _)

same-faults : (earlier : List TrackRecord) (r : Result Record Code) → ((now : Record) → r ≡ Ok now → is_end now ≡ false) → fault_after earlier (as_shared r) ≡ fault_in (checked (shared_of earlier) r)
same-faults earlier (Err why) ends = refl
same-faults earlier (Ok now) ends = same-fault earlier now (is_end now) refl (ends now refl)

is-end : (now : Record) → is_end now ≡ true → now ≡ said.End
is-end said.End is = refl
is-end (said.Header version) is = absurd (false≢true is)
is-end (said.Run run) is = absurd (false≢true is)
is-end (said.Gains gains) is = absurd (false≢true is)
is-end (said.Craft craft) is = absurd (false≢true is)
is-end (said.Climb address limit) is = absurd (false≢true is)
is-end (said.Leg address course) is = absurd (false≢true is)
is-end (said.Miss pair from to) is = absurd (false≢true is)
is-end (said.Plan pair copies) is = absurd (false≢true is)
is-end (said.Fate pair number copies) is = absurd (false≢true is)
is-end (said.Profile profile) is = absurd (false≢true is)
is-end (said.Name text) is = absurd (false≢true is)
is-end (said.Clock second) is = absurd (false≢true is)
is-end (said.Call address sign) is = absurd (false≢true is)

-- Only the record `end` says the end.
pub end-fields : (version : ℕ) (fields : List (List ℕ)) (now : Record) → says.record_of version fields ≡ Ok now → is_end now ≡ true → fields ≡ end_record
end-fields version fields now read end = ends-known fields (says.record_of version fields) now (record-ends version fields) read [] refl (ap (λ (x : Record). has_ended (x ∷ [])) (is-end now end))

kind-at-end : (version : ℕ) (kind : RecordKind) (fields : List (List ℕ)) → enc.kind_named version (field fields 0) ≡ Some kind → fields ≡ end_record → EndKind ≡ kind
kind-at-end version kind fields named end = same_Some EndKind kind (ap (λ (f : List (List ℕ)). enc.kind_named version (field f 0)) (sym end) ∙ named)

unended : (version : ℕ) (fields : List (List ℕ)) (kind : RecordKind) (b : Bool) (now : Record) → enc.kind_named version (field fields 0) ≡ Some kind → is_plain kind ≡ true → says.record_of version fields ≡ Ok now → is_end now ≡ b → b ≡ false
unended version fields kind false now named plain read is = refl
unended version fields kind true now named plain read is =
    absurd (false≢true (ap is_plain (kind-at-end version kind fields named (end-fields version fields now read is)) ∙ plain))

plain-told : (earlier : List TrackRecord) (fields : List (List ℕ)) (kind : RecordKind) → IsGoing earlier → is_plain kind ≡ true → kind_named (version_of (shared_of earlier)) (field fields 0) ≡ Some (SharedKind kind)
    → enc.kind_named (version_of (shared_of earlier)) (field fields 0) ≡ Some kind → says.record_of (version_of (shared_of earlier)) fields ≡ read-by kind fields → IsToldAs earlier fields (as_shared (read-by kind fields))
plain-told earlier fields kind going plain named known read =
    same-faults earlier (read-by kind fields) (λ now is. unended (version_of (shared_of earlier)) fields kind (is_end now) now known plain (read ∙ is) refl)
    ∙ kind-told (shared_of earlier) kind fields going.sound
    ∙ sym (lowest-same (has_text_fault earlier (Some fields)) (fault_by (shared_of earlier) kind fields) (plain-faults earlier fields kind going plain named))

-- The kind that is found has this name.
found-step : (test : RecordKind → Bool) (k kind : RecordKind) (rest : Option RecordKind) (b : Bool) → test k ≡ b → (rest ≡ Some kind → test kind ≡ true) → (if b then Some k else rest) ≡ Some kind → test kind ≡ true
found-step test k kind rest true e later is = ap test (sym (same_Some k kind is)) ∙ e
found-step test k kind rest false e later is = later is

pub found-passes : (test : RecordKind → Bool) (kinds : List RecordKind) (kind : RecordKind) → find test kinds ≡ Some kind → test kind ≡ true
found-passes test [] kind is = absurd (none-some kind is)
found-passes test (k ∷ kinds) kind is = found-step test k kind (find test kinds) (test k) refl (found-passes test kinds kind) is

-- A record of a kind that an encounter has, but for an aircraft and a leg.
shared-told : (earlier : List TrackRecord) (fields : List (List ℕ)) (kind : RecordKind) → IsGoing earlier → kind_named (version_of (shared_of earlier)) (field fields 0) ≡ Some (SharedKind kind) → enc.kind_named (version_of (shared_of earlier)) (field fields 0) ≡ Some kind
    → says.record_of (version_of (shared_of earlier)) fields ≡ read-by kind fields → bytes_eq (field fields 0) (codes "craft") ≡ false → bytes_eq (field fields 0) (codes "leg") ≡ false → bytes_eq (field fields 0) (kind_word kind) ≡ true
    → IsToldAs earlier fields (as_shared (read-by kind fields))
shared-told earlier fields CraftKind going named known read craft leg passes = absurd (both_ways _ craft passes)
shared-told earlier fields LegKind going named known read craft leg passes = absurd (both_ways _ leg passes)
shared-told earlier fields EndKind going named known read craft leg passes = end-told earlier fields going named
shared-told earlier fields RunKind going named known read craft leg passes = plain-told earlier fields RunKind going refl named known read
shared-told earlier fields GainsKind going named known read craft leg passes = plain-told earlier fields GainsKind going refl named known read
shared-told earlier fields ClimbKind going named known read craft leg passes = plain-told earlier fields ClimbKind going refl named known read
shared-told earlier fields MissKind going named known read craft leg passes = plain-told earlier fields MissKind going refl named known read
shared-told earlier fields PlanKind going named known read craft leg passes = plain-told earlier fields PlanKind going refl named known read
shared-told earlier fields FateKind going named known read craft leg passes = plain-told earlier fields FateKind going refl named known read
shared-told earlier fields ProfileKind going named known read craft leg passes = plain-told earlier fields ProfileKind going refl named known read
shared-told earlier fields NameKind going named known read craft leg passes = plain-told earlier fields NameKind going refl named known read
shared-told earlier fields ClockKind going named known read craft leg passes = plain-told earlier fields ClockKind going refl named known read
shared-told earlier fields CallKind going named known read craft leg passes = plain-told earlier fields CallKind going refl named known read

name-is : (name word : List ℕ) → bytes_eq name word ≡ true → name ≡ word
name-is name word is = (bytes_eq-Decides name word).0 is

named-by : (a b : Bool) (o : Option RecordKind) → a ≡ false → b ≡ false → (if a then Some PointKind else if b then None else option_map SharedKind o) ≡ option_map SharedKind o
named-by true b o e f = absurd (false≢true (sym e))
named-by false true o e f = absurd (false≢true (sym f))
named-by false false o e f = refl

pub named-other : (version : ℕ) (name : List ℕ) (o : Option RecordKind) → bytes_eq name (codes "at") ≡ false → bytes_eq name (codes "leg") ≡ false → enc.kind_named version name ≡ o → kind_named version name ≡ option_map SharedKind o
named-other version name o point leg is = named-by (bytes_eq name (codes "at")) (bytes_eq name (codes "leg")) (enc.kind_named version name) point leg ∙ ap (option_map SharedKind) is

other-told : (earlier : List TrackRecord) (fields : List (List ℕ)) (o : Option RecordKind) → IsGoing earlier → bytes_eq (field fields 0) (codes "at") ≡ false → bytes_eq (field fields 0) (codes "craft") ≡ false
    → bytes_eq (field fields 0) (codes "leg") ≡ false → enc.kind_named (version_of (shared_of earlier)) (field fields 0) ≡ o → IsToldAs earlier fields (as_shared (says.record_of (version_of (shared_of earlier)) fields))
other-told earlier fields None going point craft leg is =
    let read : says.record_of (version_of (shared_of earlier)) fields ≡ Err code.Kind = record-told (version_of (shared_of earlier)) fields ∙ ap (λ o. kind-result o fields) is in
    rw read (unnamed-told earlier fields going (named-other (version_of (shared_of earlier)) (field fields 0) None point leg is))
other-told earlier fields (Some kind) going point craft leg is =
    let read : says.record_of (version_of (shared_of earlier)) fields ≡ read-by kind fields = record-told (version_of (shared_of earlier)) fields ∙ ap (λ o. kind-result o fields) is in
    let passes = found-passes (λ kind. bytes_eq (field fields 0) (kind_word kind)) (enc.kinds_of (version_of (shared_of earlier))) kind is in
    rw read (shared-told earlier fields kind going (named-other (version_of (shared_of earlier)) (field fields 0) (Some kind) point leg is) is read craft leg passes)

-- Each record.
pub record-told-as : (earlier : List TrackRecord) (fields : List (List ℕ)) → IsGoing earlier → fault_after earlier (record_of (version_of (shared_of earlier)) fields) ≡ lowest_of (has_text_fault earlier (Some fields))
record-told-as earlier fields going = at (bytes_eq (field fields 0) (codes "at")) (bytes_eq (field fields 0) (codes "craft")) (bytes_eq (field fields 0) (codes "leg")) refl refl refl where
  at : (a b c : Bool) → bytes_eq (field fields 0) (codes "at") ≡ a → bytes_eq (field fields 0) (codes "craft") ≡ b → bytes_eq (field fields 0) (codes "leg") ≡ c
      → fault_after earlier (if a then point_of fields else if b then craft_of fields else if c then Err code.Kind else as_shared (says.record_of (version_of (shared_of earlier)) fields)) ≡ lowest_of (has_text_fault earlier (Some fields))
  at true b c point craft leg = point-told earlier fields going (rw point refl)
  at false true c point craft leg = craft-told earlier fields going (ap (kind_named (version_of (shared_of earlier))) (name-is (field fields 0) (codes "craft") craft))
  at false false true point craft leg = unnamed-told earlier fields going (rw (point, leg) refl)
  at false false false point craft leg = other-told earlier fields (enc.kind_named (version_of (shared_of earlier)) (field fields 0)) going point craft leg refl
