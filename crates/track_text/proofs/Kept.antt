-- What the tables keep, record by record.
use Rattle.std.proofs.Common.{◌≡◌, ℕ, ◌+◌, ◌≤◌, Bool, true, false, List, [], ◌∷◌, length, Option, Some, None, Result, Ok, Err, refl, sym, ap, ◌∙◌, arith, ne_eqb}
use Rattle.std.specs.Prelude.{MatchOption, MatchResult, codes, if◌then◌else◌, is_some}
use Rattle.std.proofs.lemmas.Bool.{both_ways, false≢true}
use Rattle.std.proofs.lemmas.Option.{none-some}
use Rattle.acas_base.specs.Encounter.{Parts}
use Rattle.enc_file.specs.Conditions.{is_first}
use Rattle.enc_file.specs.Earlier.{has_ended, version_of}
use Rattle.enc_file.specs.Faults as enc
use Rattle.enc_file.specs.Reading.{missing_after}
use Rattle.enc_file.specs.Saying as says
use Rattle.enc_file.specs.Saying.{end_of, needs}
use Rattle.enc_file.specs.Spelling.{end_record}
use Rattle.enc_file.specs.Tables.{AreGoing, Holds}
use Rattle.enc_file.specs.Values.{field}
use Rattle.enc_file.specs.WellRead.{AreRead, IsOfFormat}
use Rattle.enc_file.specs.declared.record.Record.{Record}
use Rattle.enc_file.specs.declared.record.Record.TheVariants as said
use Rattle.enc_file.specs.declared.refusal.Code.{Code}
use Rattle.enc_file.specs.declared.refusal.Code.TheVariants as code
use Rattle.enc_file.specs.declared.tables.Tables.{Tables}
use Rattle.enc_file.proofs.LowestCode.{lowest_of}
use Rattle.enc_file.proofs.Stated.{AreSound}
use Rattle.track_file.specs.Along.{CanBeFlown, IsFaultOf}
use Rattle.track_file.specs.declared.along.TrackFault.{TrackFault}
use Rattle.track_file.specs.declared.along.TrackFault.TheVariants.{Cover, Rate}
use Rattle.std.specs.Result.{IsErrAnd}
use Rattle.std.specs.Str.{bytes_eq}
use Rattle.track_text.specs.Conditions.{HasNoFault, IsLowestFault, has_text_fault, said_by}
use Rattle.track_text.specs.Earlier.{cycles_of, is_end, shared_of, tracks_of}
use Rattle.track_text.specs.Reading.{Refuses, refusal_after}
use Rattle.track_text.specs.Saying.{as_shared, craft_of, point_of, record_of, version_in}
use Rattle.track_text.specs.Tables.{Adds, AreBegun, HasMade, HoldsTracks, IsFine, IsFirstFault, KeepsTracks, Takes, ends, fault_of, shared_fault}
use Rattle.track_text.specs.declared.record.TrackRecord.{TrackRecord}
use Rattle.track_text.specs.declared.record.TrackRecord.TheVariants.{Shared, At}
use Rattle.track_text.specs.declared.refusal.Fault.{Fault}
use Rattle.track_text.specs.declared.refusal.Fault.TheVariants.{Text, Track}
use Rattle.track_text.specs.declared.refusal.ReadError.{ReadError}
use Rattle.track_text.specs.declared.refusal.ReadError.TheVariants.{OutOfMemory, Refused}
use Rattle.track_text.specs.declared.tables.TrackTables.{TrackTables}
use Rattle.track_text.proofs.Lowest.{faultless, lowest-text, lowest-track}
use Rattle.track_text.proofs.ToldAs.{IsGoing, end-fields, fault_after, record-told-as}

-- Before the end and after it.

pub count-of : (o : Option Parts) (earlier : List TrackRecord) (t : TrackTables) → MatchOption o (KeepsTracks earlier t) (HasMade earlier t) → t.count ≡ length earlier
count-of None earlier t h = h.count
count-of (Some e) earlier t h = h.count

pub kept-if : (o : Option Parts) (earlier : List TrackRecord) (t : TrackTables) → MatchOption o (KeepsTracks earlier t) (HasMade earlier t) → is_some o ≡ false → KeepsTracks earlier t
kept-if None earlier t h is = h
kept-if (Some e) earlier t h is = absurd (false≢true (sym is))

pub ended-if : (o : Option Parts) (earlier : List TrackRecord) (t : TrackTables) → MatchOption o (KeepsTracks earlier t) (HasMade earlier t) → is_some o ≡ true → has_ended (shared_of earlier) ≡ true
ended-if None earlier t h is = absurd (false≢true is)
ended-if (Some e) earlier t h is = h.made.ended

held-by : (earlier : List TrackRecord) (t : TrackTables) (o : Option Parts) → o ≡ None → KeepsTracks earlier t → MatchOption o (KeepsTracks earlier t) (HasMade earlier t)
held-by earlier t None is kept = kept
held-by earlier t (Some e) is kept = absurd (none-some e (sym is))

pub held-going : (earlier : List TrackRecord) (t : TrackTables) → KeepsTracks earlier t → HoldsTracks earlier t
held-going earlier t kept = held-by earlier t t.made kept.unmade kept

pub none-read : (earlier : List TrackRecord) → length earlier ≡ 0 → earlier ≡ []
none-read [] is = refl
none-read (last ∷ earlier) is = absurd (omega (arith, is))

-- The refusal that the tables make is that of the record after the earlier ones.
pub refuses : (earlier : List TrackRecord) (t : TrackTables) (P : Fault → Type 0) (why : Fault) (e : ReadError) → t.count ≡ length earlier → P why → e ≡ Refused (refusal_after t.count why) → Refuses (length earlier) P e
refuses earlier t P why e count p is = rw is (why, p, ap (λ n. refusal_after n why) count)

-- The records of an encounter.

first-none : (s : List Record) → 1 ≤ length s → is_first s ≡ false
first-none [] some = absurd (omega (arith, some))
first-none (last ∷ s) some = refl

read-sound : (s : List Record) → AreRead s → AreSound s
read-sound [] read = tt
read-sound (said.Header version ∷ []) read = (tt, refl)
read-sound (now ∷ []) read = absurd read
read-sound (now ∷ last ∷ s) read = (read-sound (last ∷ s) read.0, read.1.sound)

pub going-of : (earlier : List TrackRecord) (t : TrackTables) → KeepsTracks earlier t → AreBegun earlier → IsGoing earlier
going-of earlier t kept begun = record {
  sound = read-sound (shared_of earlier) kept.tables.read;
  unended = kept.unended;
  some = first-none (shared_of earlier) begun.some;
}

-- After the end.

ended-some : (s : List Record) → has_ended s ≡ true → is_first s ≡ false
ended-some [] ended = absurd (false≢true ended)
ended-some (last ∷ s) ended = refl

pub after-lowest : (earlier : List TrackRecord) (fields : List (List ℕ)) → has_ended (shared_of earlier) ≡ true → lowest_of (has_text_fault earlier (Some fields)) ≡ Some code.After
unfolding has_text_fault
after-lowest earlier fields ended = rw (ended, ended-some (shared_of earlier) ended) refl

-- Where no record follows.
pub none-lowest : (earlier : List TrackRecord) → has_ended (shared_of earlier) ≡ false → (1 ≤ length earlier → 1 ≤ length (shared_of earlier)) → lowest_of (has_text_fault earlier None) ≡ Some (missing_after (length earlier))
unfolding has_text_fault
none-lowest [] unended begun = refl
none-lowest (last ∷ before) unended begun =
    rw (unended, first-none (shared_of (last ∷ before)) (begun (omega arith)), ne_eqb (length (last ∷ before)) 0 (λ e. omega (arith, e))) refl

-- The record `end`.

Never : Result TrackRecord Code → Type 0
Never (Err why) = Unit {0}
Never (Ok now) = ends now ≡ false

never-needs : {X : Type 0} (o : Option X) (why : Code) (next : X → Result TrackRecord Code) → ((x : X) → Never (next x)) → Never (needs o why next)
unfolding Never
never-needs None why next h = tt
never-needs (Some x) why next h = h x

never-if : (b : Bool) (r : Result TrackRecord Code) (why : Code) → Never r → Never (if b then r else Err why)
unfolding Never
never-if true r why h = h
never-if false r why h = tt

never-at : (address : ℕ) (p : _) → Never (Ok (At address p))
unfolding Never
never-at address p = refl

never-craft : (craft : _) → Never (Ok (Shared (said.Craft craft)))
unfolding Never
never-craft craft = refl

point-never : (fields : List (List ℕ)) → Never (point_of fields)
unfolding point_of
point-never fields = search (never-if, never-needs, never-at) depth 12

craft-never : (fields : List (List ℕ)) → Never (craft_of fields)
unfolding craft_of
craft-never fields = search (never-if, never-needs, never-craft) depth 12

never-ends : (r : Result TrackRecord Code) (now : TrackRecord) → Never r → r ≡ Ok now → ends now ≡ false
unfolding Never
never-ends (Err why) now h is = absurd (cc is)
never-ends (Ok other) now h is = let same : other ≡ now = cc is in ap ends (sym same) ∙ h

shared-ends : (version : ℕ) (fields : List (List ℕ)) (r : Result Record Code) (now : TrackRecord) → says.record_of version fields ≡ r → as_shared r ≡ Ok now → ends now ≡ true → fields ≡ end_record
shared-ends version fields (Err why) now read is end = absurd (cc is)
shared-ends version fields (Ok record') now read is end =
    let same : Shared record' ≡ now = cc is in
    end-fields version fields record' read (ap ends same ∙ end)

pub ends-fields : (version : ℕ) (fields : List (List ℕ)) (now : TrackRecord) → record_of version fields ≡ Ok now → ends now ≡ true → fields ≡ end_record
ends-fields version fields now read end = at (bytes_eq (field fields 0) (codes "at")) (bytes_eq (field fields 0) (codes "craft")) (bytes_eq (field fields 0) (codes "leg")) read where
  at : (a b c : Bool) → (if a then point_of fields else if b then craft_of fields else if c then Err code.Kind else as_shared (says.record_of version fields)) ≡ Ok now → fields ≡ end_record
  at true b c is = absurd (both_ways (ends now) (never-ends (point_of fields) now (point-never fields) is) end)
  at false true c is = absurd (both_ways (ends now) (never-ends (craft_of fields) now (craft-never fields) is) end)
  at false false true is = absurd (cc is)
  at false false false is = shared-ends version fields (says.record_of version fields) now refl is end

end-read : (version : ℕ) → record_of version end_record ≡ Ok (Shared said.End)
unfolding says.record_of end_of
end-read version = refl

fields-end : (version : ℕ) (fields : List (List ℕ)) (now : TrackRecord) → record_of version fields ≡ Ok now → fields ≡ end_record → ends now ≡ true
fields-end version fields now read is =
    let same : Shared said.End ≡ now = (let e = sym (end-read version) ∙ ap (record_of version) (sym is) ∙ read in cc e) in
    ap ends (sym same)

-- Tracks that can be flown have no fault.
pub not-flown : (cycles : ℕ) (tracks : _) (fault : TrackFault) → CanBeFlown cycles tracks → IsFaultOf cycles tracks fault → ⊥
not-flown cycles tracks (Cover craft) flown wrong = both_ways _ wrong.1 (flown.covered craft _ wrong.0)
not-flown cycles tracks (Rate craft cycle) flown wrong = wrong.1.1.excess (flown.flyable craft _ wrong.1.0 cycle wrong.1.1.begun wrong.1.1.in_run)

-- What was added was taken.

said-later : (earlier : List TrackRecord) (fields : List (List ℕ)) → is_first (shared_of earlier) ≡ false → said_by earlier fields ≡ record_of (version_of (shared_of earlier)) fields
said-later [] fields some = absurd (false≢true (sym some))
said-later (last ∷ earlier) fields some = refl

told-of : (earlier : List TrackRecord) (fields : List (List ℕ)) (now : TrackRecord) → IsGoing earlier → record_of (version_of (shared_of earlier)) fields ≡ Ok now → fault_of earlier now ≡ lowest_of (has_text_fault earlier (Some fields))
told-of earlier fields now going read = ap (fault_after earlier) (sym read) ∙ record-told-as earlier fields going

some-same : (a b : List (List ℕ)) → Some a ≡ Some b → a ≡ b
some-same a b is = cc is

first-lowest : (earlier : List TrackRecord) (fields : List (List ℕ)) (now : TrackRecord) (why : Fault) → IsGoing earlier → record_of (version_of (shared_of earlier)) fields ≡ Ok now → IsFirstFault earlier now why → IsLowestFault earlier (Some fields) why
first-lowest earlier fields now (Text why) going read first = lowest-text earlier (Some fields) why (sym (told-of earlier fields now going read) ∙ first)
first-lowest earlier fields now (Track fault address) going read first =
    lowest-track earlier (Some fields) fault address (sym (told-of earlier fields now going read) ∙ first.0) (ap Some (ends-fields (version_of (shared_of earlier)) fields now read first.1)) first.2 first.3

pub taken : {T : Type 0} (earlier : List TrackRecord) (fields : List (List ℕ)) (now : TrackRecord) (t : TrackTables) (r : Result T ReadError) → IsGoing earlier → record_of (version_of (shared_of earlier)) fields ≡ Ok now → Adds earlier now t r → Takes earlier fields t r
taken earlier fields now t (Ok x) going read h = (
  faultless earlier (Some fields) (sym (told-of earlier fields now going read) ∙ h.0.sound)
      (λ fault end wrong. not-flown (cycles_of earlier) (tracks_of earlier) fault (h.0.flown (fields-end (version_of (shared_of earlier)) fields now read (some-same fields end_record end))) wrong),
  (now, said-later earlier fields going.some ∙ read, h.1),
)
taken earlier fields now t (Err (Refused refusal)) going read h = (h.0, first-lowest earlier fields now h.0 going read h.1, h.2)
taken earlier fields now t (Err OutOfMemory) going read h = tt

-- A record that says nothing by itself.
pub unread-lowest : (earlier : List TrackRecord) (fields : List (List ℕ)) (why : Code) → IsGoing earlier → record_of (version_of (shared_of earlier)) fields ≡ Err why → IsLowestFault earlier (Some fields) (Text why)
unread-lowest earlier fields why going read = lowest-text earlier (Some fields) why (sym (record-told-as earlier fields going) ∙ ap (fault_after earlier) read)

-- The header.

headed-lowest : (fields : List (List ℕ)) (o : Option ℕ) → version_in fields ≡ o → lowest_of (has_text_fault [] (Some fields)) ≡ (if is_some o then None else Some code.Header)
unfolding has_text_fault
headed-lowest fields None is = rw is refl
headed-lowest fields (Some version) is = rw is refl

pub unheaded : (fields : List (List ℕ)) → version_in fields ≡ None → IsLowestFault [] (Some fields) (Text code.Header)
unheaded fields is = lowest-text [] (Some fields) code.Header (headed-lowest fields None is)

no-track : (fault : TrackFault) → IsFaultOf 0 [] fault → ⊥
no-track (Cover craft) wrong = omega (arith, wrong.0)
no-track (Rate craft cycle) wrong = omega (arith, wrong.1.0)

header-held : (t : TrackTables) (version : ℕ) (tables : Tables) (o : Option Parts) → t.made ≡ o → Holds (said.Header version ∷ []) tables → MatchOption o (KeepsTracks [] t) (HasMade [] t)
    → MatchOption o (KeepsTracks (Shared (said.Header version) ∷ []) (record t { count = 1; version = version; tables = tables })) (HasMade (Shared (said.Header version) ∷ []) (record t { count = 1; version = version; tables = tables }))
header-held t version tables None made holds h = record {
  count = refl;
  unended = refl;
  version = refl;
  tables = holds;
  many = h.many;
  points = h.points;
  rising = h.rising;
  unmade = made;
  begun = λ some. omega arith;
}
header-held t version tables (Some e) made holds h = absurd (false≢true h.made.ended)

pub header-taken : (t : TrackTables) (fields : List (List ℕ)) (version : ℕ) (tables : Tables) → version_in fields ≡ Some version → Holds (said.Header version ∷ []) tables → HoldsTracks [] t
    → HasNoFault [] (Some fields) × ((now : TrackRecord) × (said_by [] fields ≡ Ok now) × HoldsTracks (now ∷ []) (record t { count = 1; version = version; tables = tables }))
header-taken t fields version tables is holds h = (
  faultless [] (Some fields) (headed-lowest fields (Some version) is) (λ fault end wrong. no-track fault wrong),
  (Shared (said.Header version), rw is refl, header-held t version tables t.made refl holds h),
)

-- A record that an encounter has, too, but the end.

unended-next : (s : List Record) (now : Record) → is_end now ≡ false → has_ended (now ∷ s) ≡ has_ended s
unended-next s said.End is = absurd (false≢true (sym is))
unended-next s (said.Header version) is = refl
unended-next s (said.Run run) is = refl
unended-next s (said.Gains gains) is = refl
unended-next s (said.Craft craft) is = refl
unended-next s (said.Climb address limit) is = refl
unended-next s (said.Leg address course) is = refl
unended-next s (said.Miss pair from to) is = refl
unended-next s (said.Plan pair copies) is = refl
unended-next s (said.Fate pair number copies) is = refl
unended-next s (said.Profile profile) is = refl
unended-next s (said.Name text) is = refl
unended-next s (said.Clock second) is = refl
unended-next s (said.Call address sign) is = refl

version-next : (known : ℕ) (s : List Record) (now : Record) → IsOfFormat known now → version_of (now ∷ s) ≡ version_of s
version-next known s (said.Header version) format = absurd format
version-next known s said.End format = refl
version-next known s (said.Run run) format = refl
version-next known s (said.Gains gains) format = refl
version-next known s (said.Craft craft) format = refl
version-next known s (said.Climb address limit) format = refl
version-next known s (said.Leg address course) format = refl
version-next known s (said.Miss pair from to) format = refl
version-next known s (said.Plan pair copies) format = refl
version-next known s (said.Fate pair number copies) format = refl
version-next known s (said.Profile profile) format = refl
version-next known s (said.Name text) format = refl
version-next known s (said.Clock second) format = refl
version-next known s (said.Call address sign) format = refl

sound-next : (s : List Record) (now : Record) (tables : Tables) → 1 ≤ length s → Holds (now ∷ s) tables → enc.fault_of s now ≡ None
sound-next [] now tables some h = absurd (omega (arith, some))
sound-next (last ∷ s) now tables some h = h.read.1.sound

by-end : (s : List Record) (now : Record) (b : Bool) (o : Option Code) → is_end now ≡ b → b ≡ false → enc.fault_of s now ≡ o → shared_fault s now b ≡ o
by-end s now true o is not-end sound = absurd (false≢true (sym not-end))
by-end s now false o is not-end sound = sound

pub shared-added : (earlier : List TrackRecord) (t : TrackTables) (now : Record) (tables : Tables) → KeepsTracks earlier t → AreBegun earlier → is_end now ≡ false → IsOfFormat t.version now
    → Holds (now ∷ shared_of earlier) tables → IsFine earlier (Shared now) × HoldsTracks (Shared now ∷ earlier) (record t { count = t.count + 1; tables = tables })
shared-added earlier t now tables kept begun more format held = (
  record {
    sound = by-end (shared_of earlier) now (is_end now) None refl more (sound-next (shared_of earlier) now tables begun.some held);
    flown = λ end. absurd (both_ways (is_end now) more end);
  },
  held-going (Shared now ∷ earlier) (record t { count = t.count + 1; tables = tables }) (record {
    count = ap (λ n. n + 1) kept.count ∙ omega arith;
    unended = unended-next (shared_of earlier) now more ∙ kept.unended;
    version = kept.version ∙ sym (version-next t.version (shared_of earlier) now format);
    tables = held;
    many = kept.many;
    points = kept.points;
    rising = kept.rising;
    unmade = kept.unmade;
    begun = λ some. omega arith;
  }),
)

pub shared-wrong : (earlier : List TrackRecord) (now : Record) (why : Code) → is_end now ≡ false → enc.fault_of (shared_of earlier) now ≡ Some why → IsFirstFault earlier (Shared now) (Text why)
shared-wrong earlier now why more wrong = by-end (shared_of earlier) now (is_end now) (Some why) refl more wrong

-- There are no more records of an encounter than records.
pub few-shared : (earlier : List TrackRecord) → length (shared_of earlier) ≤ length earlier
few-shared [] = omega arith
few-shared (Shared now ∷ earlier) = omega (arith, few-shared earlier)
few-shared (At address point ∷ earlier) = omega (arith, few-shared earlier)

pub shared-going : (earlier : List TrackRecord) (t : TrackTables) → KeepsTracks earlier t → AreBegun earlier → AreGoing (shared_of earlier)
shared-going earlier t kept begun = record { some = begun.some; unended = kept.unended }

-- Where no record follows, the encounter that was made is told, or what is missing.
pub missing : (earlier : List TrackRecord) (t : TrackTables) → KeepsTracks earlier t → IsLowestFault earlier None (Text (missing_after t.count))
missing earlier t kept = lowest-text earlier None (missing_after t.count) (none-lowest earlier kept.unended kept.begun ∙ ap (λ n. Some (missing_after n)) (sym kept.count))

-- Memory may be wanting at any time.
pub wanting : {T : Type 0} (P : T → Type 0) (count : ℕ) (Q : Fault → Type 0) (r : Result T ReadError) → IsErrAnd r (λ e. e ≡ OutOfMemory) → MatchResult r P (Refuses count Q)
wanting P count Q (Ok x) h = absurd h
wanting P count Q (Err e) h = rw h tt

-- A record that isn't the end.
pub not-end : (now : Record) → (now ≡ said.End → ⊥) → is_end now ≡ false
not-end said.End other = absurd (other refl)
not-end (said.Header version) other = refl
not-end (said.Run run) other = refl
not-end (said.Gains gains) other = refl
not-end (said.Craft craft) other = refl
not-end (said.Climb address limit) other = refl
not-end (said.Leg address course) other = refl
not-end (said.Miss pair from to) other = refl
not-end (said.Plan pair copies) other = refl
not-end (said.Fate pair number copies) other = refl
not-end (said.Profile profile) other = refl
not-end (said.Name text) other = refl
not-end (said.Clock second) other = refl
not-end (said.Call address sign) other = refl
