-- What the fields of a record are where it is read.
use Rattle.std.proofs.Common.{◌≡◌, ◌∙◌, ℕ, Bool, true, false, ℤ, List, [], ◌∷◌, length, Option, Some, None, refl, sym, ap}
use Rattle.std.specs.Prelude.{◌==◌, ◌&&◌, nat_le, nat_lt, if◌then◌else◌, codes, Result, Ok, Err}
use Rattle.std.specs.Str.{bytes_eq}
use Rattle.std.proofs.lemmas.Bool.{false≢true}
use Rattle.std.proofs.lemmas.Option.{same_Some}
use Rattle.std.proofs.lemmas.Slice.Eq.{bytes_eq-Decides}
use Rattle.enc_file.specs.Conditions.{said_by}
use Rattle.enc_file.specs.Earlier.{version_of}
use Rattle.enc_file.specs.Saying.{call_of, climb_of, clock_of, craft_of, end_of, fate_of, gains_of, leg_of, miss_of, name_of, needs, plan_of, profile_of, record_of, run_of, version_in}
use Rattle.enc_file.specs.Values.{address_in, count_in, field, sign_in}
use Rattle.acas_base.specs.Labels.{is_call_sign}
use Rattle.acas_base.specs.declared.craft.Kind.{Kind}
use Rattle.acas_base.specs.declared.setting.Profile.{Profile}
use Rattle.enc_file.specs.declared.record.Copies.{Copies}
use Rattle.enc_file.specs.declared.record.Record.{Record}
use Rattle.enc_file.specs.declared.record.Record.TheVariants as said
use Rattle.enc_file.specs.declared.record.Run.{Run}
use Rattle.enc_file.specs.declared.record.TrackGains.{TrackGains}
use Rattle.enc_file.specs.declared.refusal.Code.{Code}
use Rattle.enc_file.specs.declared.refusal.Code.TheVariants as code
use Rattle.fault_text.specs.Before.{are_about, are_called, has_first, has_second, is_about, is_about_in, is_asked, is_called_in}
use Rattle.fault_text.specs.Rows.{IsNoKind, IsRow, Says, SaysRow, word_said}
use Rattle.fault_text.specs.Names.{word_text}
use Rattle.fault_text.specs.declared.earlier.Sought.{Sought}
use Rattle.fault_text.specs.declared.names.RecordKind.{RecordKind}
use Rattle.fault_text.specs.declared.names.RecordKind.TheVariants as kind

-- A record with this word was read, or none was.
As : List ℕ → List (List ℕ) → Result Record Code → Type 0
As word row (Err why) = Unit {0}
As word row (Ok now) = (word ≡ word_said now) × Says row now

as-needs : {X : Type 0} (word : List ℕ) (row : List (List ℕ)) (o : Option X) (why : Code) (next : X → Result Record Code) → ((x : X) → o ≡ Some x → As word row (next x)) → As word row (needs o why next)
unfolding As
as-needs word row None why next h = tt
as-needs word row (Some x) why next h = h x refl

as-if : (word : List ℕ) (row : List (List ℕ)) (b : Bool) (r : Result Record Code) → As word row r → As word row (if b then r else Err code.Fields)
unfolding As
as-if word row true r h = h
as-if word row false r h = tt

as-unless : (word : List ℕ) (row : List (List ℕ)) (b : Bool) (r : Result Record Code) → (b ≡ false → As word row r) → As word row (if b then Err code.Number else r)
unfolding As
as-unless word row true r h = tt
as-unless word row false r h = h refl

-- Each kind of record.
run-ok : (row : List (List ℕ)) (run : Run) → As (codes "run") row (Ok (said.Run run))
unfolding As
run-ok row run = (refl, tt)

gains-ok : (row : List (List ℕ)) (gains : TrackGains) → As (codes "gains") row (Ok (said.Gains gains))
unfolding As
gains-ok row gains = (refl, tt)

craft-ok : (row : List (List ℕ)) (address : ℕ) (k : Kind) (x y alt : ℤ) → address_in (field row 1) ≡ Some address
    → As (codes "craft") row (Ok (said.Craft (record { address = address; kind = k; x = x; y = y; alt = alt; ceiling = None })))
unfolding As
craft-ok row address k x y alt is = (refl, (is, refl))

climb-ok : (row : List (List ℕ)) (address : ℕ) (limit : ℤ) → address_in (field row 1) ≡ Some address → As (codes "climb") row (Ok (said.Climb address limit))
unfolding As
climb-ok row address limit is = (refl, is)

leg-ok : (row : List (List ℕ)) (address from : ℕ) (vx vy vz : ℤ) → address_in (field row 1) ≡ Some address → count_in 1 600 (field row 2) ≡ Some from
    → As (codes "leg") row (Ok (said.Leg address (record { from = from; vx = vx; vy = vy; vz = vz })))
unfolding As
leg-ok row address from vx vy vz is begins = (refl, (is, begins))

miss-ok : (row : List (List ℕ)) (first second from to : ℕ) → address_in (field row 1) ≡ Some first → address_in (field row 2) ≡ Some second → count_in 1 600 (field row 3) ≡ Some from
    → count_in 1 600 (field row 4) ≡ Some to → nat_lt to from ≡ false → As (codes "miss") row (Ok (said.Miss (record { first = first; second = second }) from to))
unfolding As
miss-ok row first second from to one two begins ends order = (refl, ((one, two), begins, ends, order))

plan-ok : (row : List (List ℕ)) (first second : ℕ) (copies : Copies) → address_in (field row 1) ≡ Some first → address_in (field row 2) ≡ Some second
    → As (codes "plan") row (Ok (said.Plan (record { first = first; second = second }) copies))
unfolding As
plan-ok row first second copies one two = (refl, (one, two))

fate-ok : (row : List (List ℕ)) (first second number : ℕ) (copies : Copies) → address_in (field row 1) ≡ Some first → address_in (field row 2) ≡ Some second → count_in 1 600 (field row 3) ≡ Some number
    → As (codes "fate") row (Ok (said.Fate (record { first = first; second = second }) number copies))
unfolding As
fate-ok row first second number copies one two begins = (refl, ((one, two), begins))

profile-ok : (row : List (List ℕ)) (profile : Profile) → As (codes "profile") row (Ok (said.Profile profile))
unfolding As
profile-ok row profile = (refl, tt)

name-ok : (row : List (List ℕ)) (text : List ℕ) → As (codes "name") row (Ok (said.Name text))
unfolding As
name-ok row text = (refl, tt)

clock-ok : (row : List (List ℕ)) (second : ℕ) → As (codes "clock") row (Ok (said.Clock second))
unfolding As
clock-ok row second = (refl, tt)

text-same : (b : Bool) (text sign : List ℕ) → (if b then Some text else None) ≡ Some sign → text ≡ sign
text-same true text sign e = same_Some text sign e
text-same false text sign e = absurd (cc e)

call-ok : (row : List (List ℕ)) (address : ℕ) (sign : List ℕ) → address_in (field row 1) ≡ Some address → sign_in (field row 2) ≡ Some sign → As (codes "call") row (Ok (said.Call address sign))
unfolding As
call-ok row address sign is e = (refl, (is, text-same (is_call_sign (field row 2)) (field row 2) sign e))

end-ok : (row : List (List ℕ)) → As (codes "end") row (Ok said.End)
unfolding As
end-ok row = (refl, tt)

run-as : (row : List (List ℕ)) → As (codes "run") row (run_of row)
unfolding run_of
run-as row = search (as-if, as-needs, run-ok) depth 14

gains-as : (row : List (List ℕ)) → As (codes "gains") row (gains_of row)
unfolding gains_of
gains-as row = search (as-if, as-needs, gains-ok) depth 14

craft-as : (row : List (List ℕ)) → As (codes "craft") row (craft_of row)
unfolding craft_of
craft-as row = search (as-if, as-needs, craft-ok) depth 14

climb-as : (row : List (List ℕ)) → As (codes "climb") row (climb_of row)
unfolding climb_of
climb-as row = search (as-if, as-needs, climb-ok) depth 14

leg-as : (row : List (List ℕ)) → As (codes "leg") row (leg_of row)
unfolding leg_of
leg-as row = search (as-if, as-needs, leg-ok) depth 14

miss-as : (row : List (List ℕ)) → As (codes "miss") row (miss_of row)
unfolding miss_of
miss-as row = search (as-if, as-needs, as-unless, miss-ok) depth 16

plan-as : (row : List (List ℕ)) → As (codes "plan") row (plan_of row)
unfolding plan_of
plan-as row = search (as-needs, plan-ok) depth 14

fate-as : (row : List (List ℕ)) → As (codes "fate") row (fate_of row)
unfolding fate_of
fate-as row = search (as-needs, fate-ok) depth 14

profile-as : (row : List (List ℕ)) → As (codes "profile") row (profile_of row)
unfolding profile_of
profile-as row = search (as-if, as-needs, profile-ok) depth 14

name-as : (row : List (List ℕ)) → As (codes "name") row (name_of row)
unfolding name_of
name-as row = search (as-if, as-needs, name-ok) depth 14

clock-as : (row : List (List ℕ)) → As (codes "clock") row (clock_of row)
unfolding clock_of
clock-as row = search (as-if, as-needs, clock-ok) depth 14

call-as : (row : List (List ℕ)) → As (codes "call") row (call_of row)
unfolding call_of
call-as row = search (as-if, as-needs, call-ok) depth 14

end-as : (row : List (List ℕ)) → As (codes "end") row (end_of row)
unfolding end_of
end-as row = search (as-if, end-ok) depth 6

-- By its first field.
named : (b : Bool) (row : List (List ℕ)) (word : List ℕ) (r s : Result Record Code) → bytes_eq (field row 0) word ≡ b → As word row r → As (field row 0) row s → As (field row 0) row (if b then r else s)
named true row word r s e h k = rw ((bytes_eq-Decides (field row 0) word).0 e) h
named false row word r s e h k = k

named-later : (later b : Bool) (row : List (List ℕ)) (word : List ℕ) (r s : Result Record Code) → bytes_eq (field row 0) word ≡ b → As word row r → As (field row 0) row s → As (field row 0) row (if later && b then r else s)
named-later false b row word r s e h k = k
named-later true b row word r s e h k = named b row word r s e h k

none-as : (row : List (List ℕ)) (why : Code) → As (field row 0) row (Err why)
unfolding As
none-as row why = tt

record-as : (version : ℕ) (row : List (List ℕ)) → As (field row 0) row (record_of version row)
unfolding record_of
record-as version row =
    named _ row (codes "fate") _ _ refl (fate-as row) (named _ row (codes "miss") _ _ refl (miss-as row) (named _ row (codes "leg") _ _ refl (leg-as row)
    (named _ row (codes "craft") _ _ refl (craft-as row) (named _ row (codes "run") _ _ refl (run-as row) (named _ row (codes "gains") _ _ refl (gains-as row)
    (named _ row (codes "end") _ _ refl (end-as row) (named-later (nat_le 2 version) _ row (codes "climb") _ _ refl (climb-as row)
    (named-later (nat_le 2 version) _ row (codes "plan") _ _ refl (plan-as row) (named-later (nat_le 3 version) _ row (codes "profile") _ _ refl (profile-as row)
    (named-later (nat_le 3 version) _ row (codes "name") _ _ refl (name-as row) (named-later (nat_le 3 version) _ row (codes "clock") _ _ refl (clock-as row)
    (named-later (nat_le 3 version) _ row (codes "call") _ _ refl (call-as row) (none-as row code.Kind)))))))))))))

both : (a b : Bool) → (a && b) ≡ true → b ≡ true
both true b h = h
both false b h = absurd (false≢true h)

header-word : (a b : Bool) (row : List (List ℕ)) (o : Option ℕ) → bytes_eq (field row 0) (codes "encounter") ≡ b → (version : ℕ) → (if a && b then o else None) ≡ Some version → field row 0 ≡ codes "encounter"
header-word true true row o e version h = (bytes_eq-Decides (field row 0) (codes "encounter")).0 e
header-word true false row o e version h = absurd (cc h)
header-word false b row o e version h = absurd (cc h)

header-ok : (row : List (List ℕ)) (version : ℕ) → field row 0 ≡ codes "encounter" → As (field row 0) row (Ok (said.Header version))
unfolding As
header-ok row version e = (e, tt)

header-as : (row : List (List ℕ)) → As (field row 0) row (needs (version_in row) code.Header (λ version. Ok (said.Header version)))
unfolding version_in
header-as row =
    as-needs (field row 0) row (version_in row) code.Header (λ version. Ok (said.Header version)) (λ version is.
    header-ok row version (header-word (length row == 2) (bytes_eq (field row 0) (codes "encounter")) row (count_in 1 3 (field row 1)) refl version is))

said-as : (earlier : List Record) (row : List (List ℕ)) → As (field row 0) row (said_by earlier row)
said-as [] row = header-as row
said-as (last ∷ earlier) row = record-as (version_of (last ∷ earlier)) row

pub record WasRead (row : List (List ℕ)) (now : Record) : Type 0 where
  pub word : field row 0 ≡ word_said now
  pub says : Says row now

row-by : (row : List (List ℕ)) (r : Result Record Code) (now : Record) → As (field row 0) row r → r ≡ Ok now → WasRead row now
unfolding As
row-by row (Err why) now h e = absurd (cc e)
row-by row (Ok other) now h e =
    let same : other ≡ now = cc e in
    rw (← same) (record { word = h.0; says = h.1 })

-- The same of a record that is read by itself, in a format.
pub was-read : (version : ℕ) (row : List (List ℕ)) (now : Record) → record_of version row ≡ Ok now → WasRead row now
was-read version row now e = row-by row (record_of version row) now (record-as version row) e

pub is-row : (earlier : List Record) (row : List (List ℕ)) (now : Record) → said_by earlier row ≡ Ok now → WasRead row now
is-row earlier row now e = row-by row (said_by earlier row) now (said-as earlier row) e

-- A record is about what is asked for exactly where its fields are.
pub record IsFit (sought : Sought) : Type 0 where
  pub first : has_first sought.kind ≡ false → sought.first ≡ None
  pub second : has_second sought.kind ≡ false → sought.second ≡ None

and-same : (b x y : Bool) → (b ≡ true → x ≡ y) → (b && x) ≡ (b && y)
and-same true x y h = h refl
and-same false x y h = refl

both-same : (a b x y : Bool) → a ≡ b → x ≡ y → (a && x) ≡ (b && y)
both-same a b x y e f = rw (e, f) refl

unasked : (asked x y : Option ℕ) → asked ≡ None → is_asked asked x ≡ is_asked asked y
unasked asked x y e = rw e refl

asked-same : (asked x y : Option ℕ) → x ≡ y → is_asked asked x ≡ is_asked asked y
asked-same asked x y e = ap (is_asked asked) e

-- Kinds by their words.
run-first : (k : RecordKind) → bytes_eq (codes "run") (word_text k) ≡ true → (has_first k ≡ false) × (has_second k ≡ false)
run-first kind.Run h = (refl, refl)
run-first kind.Gains h = (refl, refl)
run-first kind.End h = (refl, refl)
run-first kind.Profile h = (refl, refl)
run-first kind.Name h = (refl, refl)
run-first kind.Clock h = (refl, refl)
run-first other h = absurd (false≢true h)

gains-first : (k : RecordKind) → bytes_eq (codes "gains") (word_text k) ≡ true → (has_first k ≡ false) × (has_second k ≡ false)
gains-first kind.Run h = (refl, refl)
gains-first kind.Gains h = (refl, refl)
gains-first kind.End h = (refl, refl)
gains-first kind.Profile h = (refl, refl)
gains-first kind.Name h = (refl, refl)
gains-first kind.Clock h = (refl, refl)
gains-first other h = absurd (false≢true h)

end-first : (k : RecordKind) → bytes_eq (codes "end") (word_text k) ≡ true → (has_first k ≡ false) × (has_second k ≡ false)
end-first kind.Run h = (refl, refl)
end-first kind.Gains h = (refl, refl)
end-first kind.End h = (refl, refl)
end-first kind.Profile h = (refl, refl)
end-first kind.Name h = (refl, refl)
end-first kind.Clock h = (refl, refl)
end-first other h = absurd (false≢true h)

profile-first : (k : RecordKind) → bytes_eq (codes "profile") (word_text k) ≡ true → (has_first k ≡ false) × (has_second k ≡ false)
profile-first kind.Run h = (refl, refl)
profile-first kind.Gains h = (refl, refl)
profile-first kind.End h = (refl, refl)
profile-first kind.Profile h = (refl, refl)
profile-first kind.Name h = (refl, refl)
profile-first kind.Clock h = (refl, refl)
profile-first other h = absurd (false≢true h)

name-first : (k : RecordKind) → bytes_eq (codes "name") (word_text k) ≡ true → (has_first k ≡ false) × (has_second k ≡ false)
name-first kind.Run h = (refl, refl)
name-first kind.Gains h = (refl, refl)
name-first kind.End h = (refl, refl)
name-first kind.Profile h = (refl, refl)
name-first kind.Name h = (refl, refl)
name-first kind.Clock h = (refl, refl)
name-first other h = absurd (false≢true h)

clock-first : (k : RecordKind) → bytes_eq (codes "clock") (word_text k) ≡ true → (has_first k ≡ false) × (has_second k ≡ false)
clock-first kind.Run h = (refl, refl)
clock-first kind.Gains h = (refl, refl)
clock-first kind.End h = (refl, refl)
clock-first kind.Profile h = (refl, refl)
clock-first kind.Name h = (refl, refl)
clock-first kind.Clock h = (refl, refl)
clock-first other h = absurd (false≢true h)

pub encounter-none : (k : RecordKind) (x : Bool) → (bytes_eq (codes "encounter") (word_text k) && x) ≡ false
encounter-none kind.Run x = refl
encounter-none other x = refl

craft-second : (k : RecordKind) → bytes_eq (codes "craft") (word_text k) ≡ true → has_second k ≡ false
craft-second kind.Miss h = absurd (false≢true h)
craft-second kind.Plan h = absurd (false≢true h)
craft-second kind.Fate h = absurd (false≢true h)
craft-second other h = refl

climb-second : (k : RecordKind) → bytes_eq (codes "climb") (word_text k) ≡ true → has_second k ≡ false
climb-second kind.Miss h = absurd (false≢true h)
climb-second kind.Plan h = absurd (false≢true h)
climb-second kind.Fate h = absurd (false≢true h)
climb-second other h = refl

call-second : (k : RecordKind) → bytes_eq (codes "call") (word_text k) ≡ true → has_second k ≡ false
call-second kind.Miss h = absurd (false≢true h)
call-second kind.Plan h = absurd (false≢true h)
call-second kind.Fate h = absurd (false≢true h)
call-second other h = refl

leg-second : (k : RecordKind) → bytes_eq (codes "leg") (word_text k) ≡ true → has_second k ≡ false
leg-second kind.Miss h = absurd (false≢true h)
leg-second kind.Plan h = absurd (false≢true h)
leg-second kind.Fate h = absurd (false≢true h)
leg-second other h = refl

-- With no address, with one, and with two.
none-about : (sought : Sought) (word : List ℕ) (first second : Option ℕ) → IsFit sought → (bytes_eq word (word_text sought.kind) ≡ true → (has_first sought.kind ≡ false) × (has_second sought.kind ≡ false))
    → (bytes_eq word (word_text sought.kind) && (is_asked sought.first first && is_asked sought.second second)) ≡ (bytes_eq word (word_text sought.kind) && (is_asked sought.first None && is_asked sought.second None))
none-about sought word first second fit lacks =
    and-same (bytes_eq word (word_text sought.kind)) _ _ (λ is.
    both-same _ _ _ _ (unasked sought.first first None (fit.first (lacks is).0)) (unasked sought.second second None (fit.second (lacks is).1)))

one-about : (sought : Sought) (word : List ℕ) (address : ℕ) (first second : Option ℕ) → IsFit sought → (bytes_eq word (word_text sought.kind) ≡ true → has_second sought.kind ≡ false) → first ≡ Some address
    → (bytes_eq word (word_text sought.kind) && (is_asked sought.first first && is_asked sought.second second)) ≡ (bytes_eq word (word_text sought.kind) && (is_asked sought.first (Some address) && is_asked sought.second None))
one-about sought word address first second fit lacks is-first =
    and-same (bytes_eq word (word_text sought.kind)) _ _ (λ is.
    both-same _ _ _ _ (asked-same sought.first first (Some address) is-first) (unasked sought.second second None (fit.second (lacks is))))

two-about : (sought : Sought) (word : List ℕ) (a b : ℕ) (first second : Option ℕ) → first ≡ Some a → second ≡ Some b
    → (bytes_eq word (word_text sought.kind) && (is_asked sought.first first && is_asked sought.second second)) ≡ (bytes_eq word (word_text sought.kind) && (is_asked sought.first (Some a) && is_asked sought.second (Some b)))
two-about sought word a b first second one two = rw (one, two) refl

word-same : (sought : Sought) (row : List (List ℕ)) (now : Record) → field row 0 ≡ word_said now
    → are_about sought row ≡ (bytes_eq (word_said now) (word_text sought.kind) && (is_asked sought.first (address_in (field row 1)) && is_asked sought.second (address_in (field row 2))))
word-same sought row now e = ap (λ w. bytes_eq w (word_text sought.kind) && (is_asked sought.first (address_in (field row 1)) && is_asked sought.second (address_in (field row 2)))) e

about-by : (sought : Sought) (row : List (List ℕ)) (now : Record) → IsFit sought → Says row now
    → (bytes_eq (word_said now) (word_text sought.kind) && (is_asked sought.first (address_in (field row 1)) && is_asked sought.second (address_in (field row 2)))) ≡ is_about sought now
about-by sought row (said.Header version) fit says = encounter-none sought.kind _ ∙ sym (encounter-none sought.kind _)
about-by sought row (said.Run run) fit says = none-about sought (codes "run") _ _ fit (run-first sought.kind)
about-by sought row (said.Gains gains) fit says = none-about sought (codes "gains") _ _ fit (gains-first sought.kind)
about-by sought row (said.Craft craft) fit says = one-about sought (codes "craft") craft.address _ _ fit (craft-second sought.kind) says.0
about-by sought row (said.Climb address limit) fit says = one-about sought (codes "climb") address _ _ fit (climb-second sought.kind) says
about-by sought row (said.Leg address course) fit says = one-about sought (codes "leg") address _ _ fit (leg-second sought.kind) says.0
about-by sought row (said.Miss pair from to) fit says = two-about sought (codes "miss") pair.first pair.second _ _ says.0.0 says.0.1
about-by sought row (said.Plan pair copies) fit says = two-about sought (codes "plan") pair.first pair.second _ _ says.0 says.1
about-by sought row (said.Fate pair number copies) fit says = two-about sought (codes "fate") pair.first pair.second _ _ says.0.0 says.0.1
about-by sought row said.End fit says = none-about sought (codes "end") _ _ fit (end-first sought.kind)
about-by sought row (said.Profile profile) fit says = none-about sought (codes "profile") _ _ fit (profile-first sought.kind)
about-by sought row (said.Name text) fit says = none-about sought (codes "name") _ _ fit (name-first sought.kind)
about-by sought row (said.Clock second) fit says = none-about sought (codes "clock") _ _ fit (clock-first sought.kind)
about-by sought row (said.Call address sign) fit says = one-about sought (codes "call") address _ _ fit (call-second sought.kind) says.0

no-kind : (sought : Sought) (row : List (List ℕ)) (x : Bool) → IsNoKind row → (bytes_eq (field row 0) (word_text sought.kind) && x) ≡ false
no-kind sought row x none = rw (none sought.kind) refl

row-same : (sought : Sought) (older : List (Option Record)) (row : List (List ℕ)) (now : Record) → IsFit sought → IsRow older row now → are_about sought row ≡ is_about sought now
row-same sought older row now fit is = word-same sought row now is.word ∙ about-by sought row now fit is.says

-- A row is about what is asked for exactly where it says such a record.
pub about-same : (sought : Sought) (older : List (Option Record)) (row : List (List ℕ)) (now : Option Record) → IsFit sought → SaysRow older row now → are_about sought row ≡ is_about_in sought now
about-same sought older row None fit is = no-kind sought row _ is
about-same sought older row (Some (said.Header version)) fit is = no-kind sought row _ is ∙ sym (encounter-none sought.kind _)
about-same sought older row (Some (said.Run run)) fit is = row-same sought older row (said.Run run) fit is
about-same sought older row (Some (said.Gains gains)) fit is = row-same sought older row (said.Gains gains) fit is
about-same sought older row (Some (said.Craft craft)) fit is = row-same sought older row (said.Craft craft) fit is
about-same sought older row (Some (said.Climb address limit)) fit is = row-same sought older row (said.Climb address limit) fit is
about-same sought older row (Some (said.Leg address course)) fit is = row-same sought older row (said.Leg address course) fit is
about-same sought older row (Some (said.Miss pair from to)) fit is = row-same sought older row (said.Miss pair from to) fit is
about-same sought older row (Some (said.Plan pair copies)) fit is = row-same sought older row (said.Plan pair copies) fit is
about-same sought older row (Some (said.Fate pair number copies)) fit is = row-same sought older row (said.Fate pair number copies) fit is
about-same sought older row (Some said.End) fit is = row-same sought older row said.End fit is
about-same sought older row (Some (said.Profile profile)) fit is = row-same sought older row (said.Profile profile) fit is
about-same sought older row (Some (said.Name text)) fit is = row-same sought older row (said.Name text) fit is
about-same sought older row (Some (said.Clock second)) fit is = row-same sought older row (said.Clock second) fit is
about-same sought older row (Some (said.Call address sign)) fit is = row-same sought older row (said.Call address sign) fit is

-- A row has a call sign exactly where it says such a record.
called-word : (sign : List ℕ) (row : List (List ℕ)) (word : List ℕ) → field row 0 ≡ word → bytes_eq word (codes "call") ≡ false → are_called sign row ≡ false
called-word sign row word e other = rw (e, other) refl

called-same : (sign : List ℕ) (row : List (List ℕ)) (other : List ℕ) → field row 0 ≡ codes "call" → field row 2 ≡ other → are_called sign row ≡ bytes_eq other sign
called-same sign row other e f = rw (e, f) refl

pub called-as : (sign : List ℕ) (older : List (Option Record)) (row : List (List ℕ)) (now : Option Record) → SaysRow older row now → are_called sign row ≡ is_called_in sign now
called-as sign older row None is = rw (is kind.Call) refl
called-as sign older row (Some (said.Header version)) is = rw (is kind.Call) refl
called-as sign older row (Some (said.Run run)) is = called-word sign row (codes "run") is.word refl
called-as sign older row (Some (said.Gains gains)) is = called-word sign row (codes "gains") is.word refl
called-as sign older row (Some (said.Craft craft)) is = called-word sign row (codes "craft") is.word refl
called-as sign older row (Some (said.Climb address limit)) is = called-word sign row (codes "climb") is.word refl
called-as sign older row (Some (said.Leg address course)) is = called-word sign row (codes "leg") is.word refl
called-as sign older row (Some (said.Miss pair from to)) is = called-word sign row (codes "miss") is.word refl
called-as sign older row (Some (said.Plan pair copies)) is = called-word sign row (codes "plan") is.word refl
called-as sign older row (Some (said.Fate pair number copies)) is = called-word sign row (codes "fate") is.word refl
called-as sign older row (Some said.End) is = called-word sign row (codes "end") is.word refl
called-as sign older row (Some (said.Profile profile)) is = called-word sign row (codes "profile") is.word refl
called-as sign older row (Some (said.Name text)) is = called-word sign row (codes "name") is.word refl
called-as sign older row (Some (said.Clock second)) is = called-word sign row (codes "clock") is.word refl
called-as sign older row (Some (said.Call address other)) is = called-same sign row other is.word is.says.1
