-- The records before one of tracks, as rows that say them.
use Rattle.std.proofs.Common.{◌≡◌, ◌∙◌, ℕ, Bool, true, false, ℤ, List, [], ◌∷◌, length, pos, Option, Some, None, refl, sym, ap, subst}
use Rattle.std.specs.Prelude.{◌==◌, ◌&&◌, codes, if◌then◌else◌, is_some, nat_le, Result, Ok, Err}
use Rattle.std.specs.Str.{bytes_eq}
use Rattle.std.proofs.lemmas.Bool.{both_ways, false≢true}
use Rattle.std.proofs.lemmas.List.{length-map}
use Rattle.std.proofs.lemmas.Slice.Eq.{bytes_eq-Decides}
use Rattle.acas_base.specs.declared.craft.Kind.{Kind}
use Rattle.enc_file.specs.Conditions as enc
use Rattle.enc_file.specs.Conditions.{MissKind, FateKind, if_said, is_first}
use Rattle.enc_file.specs.Earlier.{has_ended, version_of}
use Rattle.enc_file.specs.Records.{records_of}
use Rattle.enc_file.specs.Saying as says
use Rattle.enc_file.specs.Saying.{needs}
use Rattle.enc_file.specs.Values.{address_in, field}
use Rattle.enc_file.specs.declared.record.Record.{Record}
use Rattle.enc_file.specs.declared.record.Record.TheVariants as said
use Rattle.enc_file.specs.declared.refusal.Code.{Code}
use Rattle.enc_file.specs.declared.refusal.Code.TheVariants as code
use Rattle.fault_text.specs.Lines.{fields_in}
use Rattle.fault_text.specs.Names.{stated_kind, word_text}
use Rattle.fault_text.specs.Rows.{AreBefore, AreSaid, IsNoKind, IsRow, SaysRecord, SaysRow, records_in, rises}
use Rattle.fault_text.specs.Told as told
use Rattle.fault_text.specs.declared.names.RecordKind.{RecordKind}
use Rattle.fault_text.specs.declared.names.RecordKind.TheVariants as kind
use Rattle.fault_text.proofs.Passing.{AreSame}
use Rattle.fault_text.proofs.Said.{WasRead, was-read}
use Rattle.track_file.specs.declared.track.Point.{Point}
use Rattle.track_text.specs.Conditions.{ArePassed, HasNoFault, IsRefused, SharedKind, has_text_fault, is_repeat, kind_named, said_by}
use Rattle.track_text.specs.Earlier.{shared_of}
use Rattle.track_text.specs.Points.{row_point_of}
use Rattle.track_text.specs.Saying.{as_shared, craft_of, point_of, record_of, version_in, version_named}
use Rattle.track_text.specs.Told.{IsAgainst, all_shared, against_by, is_point_of, ms_in, shared_in}
use Rattle.track_text.specs.declared.record.TrackRecord.{TrackRecord}
use Rattle.track_text.specs.declared.record.TrackRecord.TheVariants.{Shared, At}
use Rattle.track_text.specs.declared.refusal.Fault.TheVariants.{Text}
use Rattle.track_text.specs.declared.refusal.Refusal.{Refusal}

-- The records of an encounter.
pub in-shared : (earlier : List TrackRecord) → records_in (all_shared earlier) ≡ shared_of earlier
in-shared [] = refl
in-shared (Shared now ∷ earlier) = ap (λ rest. now ∷ rest) (in-shared earlier)
in-shared (At address point ∷ earlier) = in-shared earlier

-- What a row is where it is read. The first one alone is a header.
abbrev pub WasHeader : List TrackRecord → List (List ℕ) → Type 0
WasHeader [] row = IsNoKind row
WasHeader (last ∷ before) row = ⊥

abbrev pub WasShared : List TrackRecord → List (List ℕ) → Record → Type 0
WasShared before row (said.Header version) = WasHeader before row
WasShared before row other = WasRead row other

abbrev pub WasTold : List TrackRecord → List (List ℕ) → TrackRecord → Type 0
WasTold before row (Shared now) = (bytes_eq (field row 0) (codes "at") ≡ false) × (bytes_eq (field row 0) (codes "leg") ≡ false) × WasShared before row now
WasTold before row (At address point) = (field row 0 ≡ codes "at") × (address_in (field row 1) ≡ Some address) × (ms_in (field row 2) ≡ Some point.ms)

-- A point.
AsPoint : List (List ℕ) → Result TrackRecord Code → Type 0
AsPoint row (Ok (At address point)) = (address_in (field row 1) ≡ Some address) × (ms_in (field row 2) ≡ Some point.ms)
AsPoint row (Ok (Shared now)) = ⊥
AsPoint row (Err why) = Unit {0}

point-needs : {X : Type 0} (row : List (List ℕ)) (o : Option X) (why : Code) (next : X → Result TrackRecord Code) → ((x : X) → o ≡ Some x → AsPoint row (next x)) → AsPoint row (needs o why next)
unfolding AsPoint
point-needs row None why next h = tt
point-needs row (Some x) why next h = h x refl

point-if : (row : List (List ℕ)) (b : Bool) (r : Result TrackRecord Code) → AsPoint row r → AsPoint row (if b then r else Err code.Fields)
unfolding AsPoint
point-if row true r h = h
point-if row false r h = tt

point-ok : (row : List (List ℕ)) (address : ℕ) (ms x y z : ℤ) → address_in (field row 1) ≡ Some address → ms_in (field row 2) ≡ Some ms → AsPoint row (Ok (At address (record { ms = ms; x = x; y = y; z = z })))
unfolding AsPoint
point-ok row address ms x y z one two = (one, two)

point-as : (row : List (List ℕ)) → AsPoint row (point_of row)
unfolding point_of
point-as row = search (point-if, point-needs, point-ok) depth 16

point-told : (before : List TrackRecord) (row : List (List ℕ)) (r : Result TrackRecord Code) (now : TrackRecord) → field row 0 ≡ codes "at" → AsPoint row r → r ≡ Ok now → WasTold before row now
unfolding AsPoint
point-told before row (Err why) now word h is = absurd (cc is)
point-told before row (Ok (Shared other)) now word h is = absurd h
point-told before row (Ok (At address point)) now word h is =
    let same : At address point ≡ now = cc is in
    subst (WasTold before row) same (word, h.0, h.1)

-- An aircraft.
AsCraft : List (List ℕ) → Result TrackRecord Code → Type 0
AsCraft row (Ok (Shared (said.Craft craft))) = (address_in (field row 1) ≡ Some craft.address) × (craft.ceiling ≡ None)
AsCraft row (Ok other) = ⊥
AsCraft row (Err why) = Unit {0}

craft-needs : {X : Type 0} (row : List (List ℕ)) (o : Option X) (why : Code) (next : X → Result TrackRecord Code) → ((x : X) → o ≡ Some x → AsCraft row (next x)) → AsCraft row (needs o why next)
unfolding AsCraft
craft-needs row None why next h = tt
craft-needs row (Some x) why next h = h x refl

craft-if : (row : List (List ℕ)) (b : Bool) (r : Result TrackRecord Code) → AsCraft row r → AsCraft row (if b then r else Err code.Fields)
unfolding AsCraft
craft-if row true r h = h
craft-if row false r h = tt

craft-ok : (row : List (List ℕ)) (address : ℕ) (k : Kind) → address_in (field row 1) ≡ Some address → AsCraft row (Ok (Shared (said.Craft (record { address = address; kind = k; x = pos 0; y = pos 0; alt = pos 0; ceiling = None }))))
unfolding AsCraft
craft-ok row address k one = (one, refl)

craft-as : (row : List (List ℕ)) → AsCraft row (craft_of row)
unfolding craft_of
craft-as row = search (craft-if, craft-needs, craft-ok) depth 12

craft-word : (row : List (List ℕ)) → field row 0 ≡ codes "craft" → (bytes_eq (field row 0) (codes "at") ≡ false) × (bytes_eq (field row 0) (codes "leg") ≡ false)
craft-word row word = (ap (λ w. bytes_eq w (codes "at")) word, ap (λ w. bytes_eq w (codes "leg")) word)

craft-told : (before : List TrackRecord) (row : List (List ℕ)) (r : Result TrackRecord Code) (now : TrackRecord) → field row 0 ≡ codes "craft" → AsCraft row r → r ≡ Ok now → WasTold before row now
unfolding AsCraft
craft-told before row (Err why) now word h is = absurd (cc is)
craft-told before row (Ok (At address point)) now word h is = absurd h
craft-told before row (Ok (Shared (said.Craft craft))) now word h is =
    let same : Shared (said.Craft craft) ≡ now = cc is in
    let other = craft-word row word in
    subst (WasTold before row) same (other.0, other.1, record { word = word; says = h })
craft-told before row (Ok (Shared (said.Header version))) now word h is = absurd h
craft-told before row (Ok (Shared (said.Run run))) now word h is = absurd h
craft-told before row (Ok (Shared (said.Gains gains))) now word h is = absurd h
craft-told before row (Ok (Shared (said.Climb address limit))) now word h is = absurd h
craft-told before row (Ok (Shared (said.Leg address course))) now word h is = absurd h
craft-told before row (Ok (Shared (said.Miss pair from to))) now word h is = absurd h
craft-told before row (Ok (Shared (said.Plan pair copies))) now word h is = absurd h
craft-told before row (Ok (Shared (said.Fate pair number copies))) now word h is = absurd h
craft-told before row (Ok (Shared (said.Profile profile))) now word h is = absurd h
craft-told before row (Ok (Shared (said.Name text))) now word h is = absurd h
craft-told before row (Ok (Shared (said.Clock second))) now word h is = absurd h
craft-told before row (Ok (Shared (said.Call address sign))) now word h is = absurd h
craft-told before row (Ok (Shared said.End)) now word h is = absurd h

-- Another record of an encounter. It is no header.
no-format : (a b : Bool) (climb plan profile name clock call : Result Record Code)
    → (if a && false then climb else if a && false then plan else if b && false then profile else if b && false then name else if b && false then clock else if b && false then call else Err code.Kind) ≡ Err code.Kind
no-format true true climb plan profile name clock call = refl
no-format true false climb plan profile name clock call = refl
no-format false true climb plan profile name clock call = refl
no-format false false climb plan profile name clock call = refl

no-header : (version : ℕ) (row : List (List ℕ)) → field row 0 ≡ codes "encounter" → says.record_of version row ≡ Err code.Kind
unfolding says.record_of
no-header version row word = rw word (no-format (nat_le 2 version) (nat_le 3 version) _ _ _ _ _ _)

header-read : (version : ℕ) (row : List (List ℕ)) (other : ℕ) → field row 0 ≡ codes "encounter" → says.record_of version row ≡ Ok (said.Header other) → ⊥
header-read version row other word read =
    let none : Err code.Kind ≡ Ok (said.Header other) = sym (no-header version row word) ∙ read in
    cc none

was-shared : (before : List TrackRecord) (version : ℕ) (row : List (List ℕ)) (now : Record) → says.record_of version row ≡ Ok now → WasRead row now → WasShared before row now
was-shared before version row (said.Header other) read is = absurd (header-read version row other is.word read)
was-shared before version row (said.Run run) read is = is
was-shared before version row (said.Gains gains) read is = is
was-shared before version row (said.Craft craft) read is = is
was-shared before version row (said.Climb address limit) read is = is
was-shared before version row (said.Leg address course) read is = is
was-shared before version row (said.Miss pair from to) read is = is
was-shared before version row (said.Plan pair copies) read is = is
was-shared before version row (said.Fate pair number copies) read is = is
was-shared before version row (said.Profile profile) read is = is
was-shared before version row (said.Name text) read is = is
was-shared before version row (said.Clock second) read is = is
was-shared before version row (said.Call address sign) read is = is
was-shared before version row said.End read is = is

shared-told : (before : List TrackRecord) (version : ℕ) (row : List (List ℕ)) (r : Result Record Code) (now : TrackRecord) → says.record_of version row ≡ r → as_shared r ≡ Ok now → bytes_eq (field row 0) (codes "at") ≡ false
    → bytes_eq (field row 0) (codes "leg") ≡ false → WasTold before row now
shared-told before version row (Err why) now read is point leg = absurd (cc is)
shared-told before version row (Ok other) now read is point leg =
    let same : Shared other ≡ now = cc is in
    subst (WasTold before row) same (point, leg, was-shared before version row other read (was-read version row other read))

record-told : (before : List TrackRecord) (version : ℕ) (row : List (List ℕ)) (now : TrackRecord) → record_of version row ≡ Ok now → WasTold before row now
record-told before version row now read = at (bytes_eq (field row 0) (codes "at")) (bytes_eq (field row 0) (codes "craft")) (bytes_eq (field row 0) (codes "leg")) refl refl refl read where
  at : (a b c : Bool) → bytes_eq (field row 0) (codes "at") ≡ a → bytes_eq (field row 0) (codes "craft") ≡ b → bytes_eq (field row 0) (codes "leg") ≡ c
      → (if a then point_of row else if b then craft_of row else if c then Err code.Kind else as_shared (says.record_of version row)) ≡ Ok now → WasTold before row now
  at true b c point craft leg is = point-told before row (point_of row) now ((bytes_eq-Decides (field row 0) (codes "at")).0 point) (point-as row) is
  at false true c point craft leg is = craft-told before row (craft_of row) now ((bytes_eq-Decides (field row 0) (codes "craft")).0 craft) (craft-as row) is
  at false false true point craft leg is = absurd (cc is)
  at false false false point craft leg is = shared-told before version row (says.record_of version row) now refl is point leg

-- The header.
tracks-other : (of : RecordKind) → bytes_eq (codes "tracks") (word_text of) ≡ false
tracks-other kind.Run = refl
tracks-other kind.Gains = refl
tracks-other kind.Craft = refl
tracks-other kind.Climb = refl
tracks-other kind.Leg = refl
tracks-other kind.Miss = refl
tracks-other kind.Plan = refl
tracks-other kind.Fate = refl
tracks-other kind.Profile = refl
tracks-other kind.Name = refl
tracks-other kind.Clock = refl
tracks-other kind.Call = refl
tracks-other kind.End = refl

header-word : (row : List (List ℕ)) → is_some (version_in row) ≡ true → field row 0 ≡ codes "tracks"
unfolding version_in
header-word row is = (bytes_eq-Decides (field row 0) (codes "tracks")).0 (second (length row == 2) (bytes_eq (field row 0) (codes "tracks")) (version_named (field row 1)) is) where
  second : (a b : Bool) (o : Option ℕ) → is_some (if a && b then o else None) ≡ true → b ≡ true
  second true true o h = refl
  second true false o h = absurd (false≢true h)
  second false b o h = absurd (false≢true h)

header-told : (row : List (List ℕ)) (o : Option ℕ) (now : TrackRecord) → version_in row ≡ o → needs o code.Header (λ version. Ok (Shared (said.Header version))) ≡ Ok now → WasTold [] row now
header-told row None now is e = absurd (cc e)
header-told row (Some version) now is e =
    let word = header-word row (ap (λ (o : Option ℕ). is_some o) is) in
    let same : Shared (said.Header version) ≡ now = cc e in
    let none : IsNoKind row = λ of. ap (λ w. bytes_eq w (word_text of)) word ∙ tracks-other of in
    subst (WasTold [] row) same (ap (λ w. bytes_eq w (codes "at")) word, ap (λ w. bytes_eq w (codes "leg")) word, none)

pub was-told : (before : List TrackRecord) (row : List (List ℕ)) (now : TrackRecord) → said_by before row ≡ Ok now → WasTold before row now
was-told [] row now is = header-told row (version_in row) now refl is
was-told (last ∷ before) row now is = record-told (last ∷ before) (version_of (shared_of (last ∷ before))) row now is

-- A record of a kind that rises repeats none.
pub no-true : (b : Bool) → (b ≡ true → ⊥) → b ≡ false
no-true true h = absurd (h refl)
no-true false h = refl

pub unended : (before : List TrackRecord) (row : List (List ℕ)) → HasNoFault before (Some row) → has_ended (shared_of before) ≡ false
unfolding has_text_fault
unended before row fine = no-true (has_ended (shared_of before)) (fine (Text code.After))

pub headed : (before : List TrackRecord) (row : List (List ℕ)) → HasNoFault before (Some row) → is_some (version_in row) ≡ false → is_first (shared_of before) ≡ false
unfolding has_text_fault
headed before row fine none = at (is_first (shared_of before)) refl (rw none at (fine (Text code.Header))) where
  at : (b : Bool) → is_first (shared_of before) ≡ b → ((b && true) ≡ true → ⊥) → b ≡ false
  at true is h = absurd (h refl)
  at false is h = refl

pub other-header : (row : List (List ℕ)) (word : List ℕ) → word ≡ field row 0 → bytes_eq word (codes "tracks") ≡ false → is_some (version_in row) ≡ false
other-header row word e other = at (is_some (version_in row)) refl where
  at : (b : Bool) → is_some (version_in row) ≡ b → b ≡ false
  at true is = absurd (both_ways _ other (ap (λ w. bytes_eq w (codes "tracks")) (e ∙ header-word row is)))
  at false is = refl

repeats-none : (before : List TrackRecord) (row : List (List ℕ)) (k : enc.RecordKind) → HasNoFault before (Some row) → is_first (shared_of before) ≡ false → has_ended (shared_of before) ≡ false → kind_named (version_of (shared_of before)) (field row 0) ≡ Some (SharedKind k)
    → is_repeat before (SharedKind k) row ≡ false
unfolding has_text_fault
repeats-none before row k fine some going named = no-true (is_repeat before (SharedKind k) row) (rw (some, going, named) at (fine (Text code.Repeat)))

fine-row : (before : List TrackRecord) (row : List (List ℕ)) (of : RecordKind) → HasNoFault before (Some row) → bytes_eq (field row 0) (codes "leg") ≡ false → rises of ≡ true → word_text of ≡ field row 0
    → enc.is_repeat (shared_of before) (stated_kind of) row ≡ false
fine-row before row kind.Leg fine leg up word = absurd (both_ways _ leg (ap (λ w. bytes_eq w (codes "leg")) (sym word)))
fine-row before row kind.Miss fine leg up word =
    repeats-none before row MissKind fine (headed before row fine (other-header row (codes "miss") word refl)) (unended before row fine) (rw (← word) refl)
fine-row before row kind.Fate fine leg up word =
    repeats-none before row FateKind fine (headed before row fine (other-header row (codes "fate") word refl)) (unended before row fine) (rw (← word) refl)
fine-row before row other fine leg up word = absurd (false≢true up)

-- What a row says, as a record of an encounter or another one.
at-other : (of : RecordKind) → bytes_eq (codes "at") (word_text of) ≡ false
at-other kind.Run = refl
at-other kind.Gains = refl
at-other kind.Craft = refl
at-other kind.Climb = refl
at-other kind.Leg = refl
at-other kind.Miss = refl
at-other kind.Plan = refl
at-other kind.Fate = refl
at-other kind.Profile = refl
at-other kind.Name = refl
at-other kind.Clock = refl
at-other kind.Call = refl
at-other kind.End = refl

row-is : (before : List TrackRecord) (row : List (List ℕ)) (now : Record) → HasNoFault before (Some row) → bytes_eq (field row 0) (codes "leg") ≡ false → WasRead row now → IsRow (all_shared before) row now
row-is before row now fine leg is = record {
  word = is.word;
  says = is.says;
  fine = λ of up word. ap (λ rs. enc.is_repeat rs (stated_kind of) row) (in-shared before) ∙ fine-row before row of fine leg up word;
}

row-record : (before : List TrackRecord) (row : List (List ℕ)) (now : Record) → HasNoFault before (Some row) → bytes_eq (field row 0) (codes "leg") ≡ false → WasShared before row now → SaysRecord (all_shared before) row now
row-record [] row (said.Header version) fine leg is = is
row-record (last ∷ before) row (said.Header version) fine leg is = absurd is
row-record before row (said.Run run) fine leg is = row-is before row (said.Run run) fine leg is
row-record before row (said.Gains gains) fine leg is = row-is before row (said.Gains gains) fine leg is
row-record before row (said.Craft craft) fine leg is = row-is before row (said.Craft craft) fine leg is
row-record before row (said.Climb address limit) fine leg is = row-is before row (said.Climb address limit) fine leg is
row-record before row (said.Leg address course) fine leg is = row-is before row (said.Leg address course) fine leg is
row-record before row (said.Miss pair from to) fine leg is = row-is before row (said.Miss pair from to) fine leg is
row-record before row (said.Plan pair copies) fine leg is = row-is before row (said.Plan pair copies) fine leg is
row-record before row (said.Fate pair number copies) fine leg is = row-is before row (said.Fate pair number copies) fine leg is
row-record before row (said.Profile profile) fine leg is = row-is before row (said.Profile profile) fine leg is
row-record before row (said.Name text) fine leg is = row-is before row (said.Name text) fine leg is
row-record before row (said.Clock second) fine leg is = row-is before row (said.Clock second) fine leg is
row-record before row (said.Call address sign) fine leg is = row-is before row (said.Call address sign) fine leg is
row-record before row said.End fine leg is = row-is before row said.End fine leg is

row-shared : (before : List TrackRecord) (row : List (List ℕ)) (now : TrackRecord) → HasNoFault before (Some row) → WasTold before row now → SaysRow (all_shared before) row (shared_in now)
row-shared before row (At address point) fine is = λ of. ap (λ w. bytes_eq w (word_text of)) is.0 ∙ at-other of
row-shared before row (Shared now) fine is = row-record before row now fine is.1 is.2

shared-said : (before : List TrackRecord) (rows : List (List (List ℕ))) (all : List TrackRecord) → ArePassed before rows all → AreSaid SaysRow (all_shared before) rows (all_shared all)
shared-said before [] all passed = ap all_shared passed
shared-said before (row ∷ rows) all passed =
    let now = passed.1.0 in
    (shared_in now, row-shared before row now passed.0 (was-told before row now passed.1.1), shared-said (now ∷ before) rows all passed.1.2)

pub before-shared : (text : List ℕ) (refusal : Refusal) (r : IsRefused (records_of text) refusal) → AreBefore SaysRow text refusal.at (all_shared r.earlier)
before-shared text refusal r =
    let size : length (all_shared r.earlier) ≡ length r.earlier = length-map r.earlier shared_in in record {
      said = rw size (shared-said [] _ r.earlier r.passed);
      number = rw size r.at;
    }

-- What a row says, as a record of tracks.
abbrev pub SaysTrack : List TrackRecord → List (List ℕ) → TrackRecord → Type 0
SaysTrack before row now = HasNoFault before (Some row) × (said_by before row ≡ Ok now)

tracks-said : (before : List TrackRecord) (rows : List (List (List ℕ))) (all : List TrackRecord) → ArePassed before rows all → AreSaid SaysTrack before rows all
tracks-said before [] all passed = passed
tracks-said before (row ∷ rows) all passed = (passed.1.0, (passed.0, passed.1.1), tracks-said (passed.1.0 ∷ before) rows all passed.1.2)

pub before-tracks : (text : List ℕ) (refusal : Refusal) (r : IsRefused (records_of text) refusal) → AreBefore SaysTrack text refusal.at r.earlier
before-tracks text refusal r = record { said = tracks-said [] _ r.earlier r.passed; number = r.at }

-- Points by their rows.
point-row : (before : List TrackRecord) (row : List (List ℕ)) (a : ℕ) (now : TrackRecord) → WasTold before row now → row_point_of a row ≡ is_point_of a now
point-row before row a (Shared now) is = rw (is.0) refl
point-row before row a (At address point) is = rw (is.0, is.1) refl

pub same-points : (a : ℕ) → AreSame SaysTrack (is_point_of a) (row_point_of a)
same-points a = λ before row now is. point-row before row a now (was-told before row now is.1)

pub point-says : (before : List TrackRecord) (row : List (List ℕ)) (address : ℕ) (point : Point) → SaysTrack before row (At address point) → (address_in (field row 1) ≡ Some address) × (ms_in (field row 2) ≡ Some point.ms)
point-says before row address point is =
    let told = was-told before row (At address point) is.1 in
    (told.1, told.2)

-- A record that is as in an encounter, after those before it.
against-same : (c : Code) (earlier : List TrackRecord) (k : RecordKind) (fields : List (List ℕ)) → told.against_by c (records_in (all_shared earlier)) (stated_kind k) fields ≡ against_by c earlier (SharedKind (stated_kind k)) fields
against-same code.Repeat earlier k fields = ap (λ rs. enc.is_repeat rs (stated_kind k) fields) (in-shared earlier)
against-same code.Unknown earlier k fields = ap (λ rs. enc.is_unknown rs (stated_kind k) fields) (in-shared earlier)
against-same code.Count earlier k fields = ap (λ rs. enc.is_miscounted rs (stated_kind k) fields) (in-shared earlier)
against-same code.Header earlier k fields = refl
against-same code.Kind earlier k fields = refl
against-same code.Fields earlier k fields = refl
against-same code.Number earlier k fields = refl
against-same code.Address earlier k fields = refl
against-same code.Mask earlier k fields = refl
against-same code.Box earlier k fields = refl
against-same code.NoEnd earlier k fields = refl
against-same code.After earlier k fields = refl

pub shared-against : (text : List ℕ) (refusal : Refusal) (c : Code) (k : RecordKind) (line : List ℕ) (a : IsAgainst text refusal c (SharedKind (stated_kind k)) line) → told.IsAgainst text refusal.at c k line (all_shared a.refused.earlier)
shared-against text refusal c k line a = record {
  before = before-shared text refusal a.refused;
  fault = against-same c a.refused.earlier k (fields_in line) ∙ a.fault;
}
