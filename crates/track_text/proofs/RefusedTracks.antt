-- What a refusal says of the record of tracks that is refused.
use Rattle.std.proofs.Common.{◌≡◌, ◌∙◌, ℕ, zero, suc, ◌+◌, ◌-◌, ◌≤◌, ◌<◌, Bool, true, false, ◌||◌, not, List, [], ◌∷◌, length, take, Option, Some, None, refl, sym, ap, subst, arith}
use Rattle.std.specs.Prelude.{◌&&◌, codes, is_none, is_some, slice_get, Ok}
use Rattle.std.proofs.lemmas.Bool.{both_ways, false≢true}
use Rattle.std.proofs.lemmas.Option.{none-some, same_Some}
use Rattle.enc_file.specs.Codes.{code_number}
use Rattle.enc_file.specs.Conditions.{if_going, if_said, is_first}
use Rattle.enc_file.specs.Earlier.{has_ended, version_of}
use Rattle.enc_file.specs.Saying.{needs}
use Rattle.enc_file.specs.Records.{records_of}
use Rattle.enc_file.specs.Spelling.{end_record}
use Rattle.enc_file.specs.Values.{field}
use Rattle.enc_file.specs.declared.record.Record.{Record}
use Rattle.enc_file.specs.declared.record.Record.TheVariants as said
use Rattle.enc_file.specs.declared.refusal.Code.{Code}
use Rattle.enc_file.specs.declared.refusal.Code.TheVariants as code
use Rattle.fault_text.specs.Lines.{IsPlaced, Stands, fields_in, file_lines, written}
use Rattle.fault_text.specs.Told as told
use Rattle.fault_text.specs.Told.{IsRecord}
use Rattle.fault_text.proofs.NamedAgainst.{enough-lines}
use Rattle.fault_text.proofs.Refusals.{one-field, stands-record}
use Rattle.track_text.specs.Codes.{fault_number}
use Rattle.track_text.specs.Conditions.{ArePassed, HasFault, IsRefused, TrackKind, has_text_fault, is_count_wrong, kind_named, said_by}
use Rattle.track_text.specs.Earlier.{is_end, shared_of}
use Rattle.track_text.specs.Saying.{version_in}
use Rattle.track_text.specs.Tables.{ends}
use Rattle.track_text.specs.Told.{IsAgainst, IsFormat, IsWrong, Tells, TellsAgainst, TellsEarlier, TellsFault, TellsFields, TellsOf, TellsText, against_by, is_of_earlier, is_of_fields, wrong_by}
use Rattle.track_text.specs.Kinds.{IsKindNamed, IsLineKind, stated_line}
use Rattle.track_text.specs.declared.kinds.LineKind.{LineKind}
use Rattle.track_text.specs.declared.record.TrackRecord.{TrackRecord}
use Rattle.track_text.specs.declared.record.TrackRecord.TheVariants.{Shared, At}
use Rattle.track_text.specs.declared.refusal.Fault.{Fault}
use Rattle.track_text.specs.declared.refusal.Fault.TheVariants.{Text}
use Rattle.track_text.specs.declared.refusal.Refusal.{Refusal}
use Rattle.track_text.specs.declared.why.TrackWhy.{TrackWhy}
use Rattle.track_text.proofs.Kept.{ends-fields}
use Rattle.track_text.proofs.TrackRows.{no-true, unended}

-- The fault of a refusal.
abbrev pub next_of : (rows : List (List (List ℕ))) (refusal : Refusal) → IsRefused rows refusal → Option (List (List ℕ))
next_of rows refusal r = slice_get rows (length r.earlier)

pub faulty-as : (rows : List (List (List ℕ))) (refusal : Refusal) (r : IsRefused rows refusal) (c : Code) → refusal.fault ≡ Text c → has_text_fault r.earlier (next_of rows refusal r) c ≡ true
faulty-as rows refusal r c is = subst (λ (f : Fault). HasFault r.earlier (next_of rows refusal r) f) is r.fault.faulty

pub lowest-as : (rows : List (List (List ℕ))) (refusal : Refusal) (r : IsRefused rows refusal) (c other : Code) → refusal.fault ≡ Text c → code_number other < code_number c → has_text_fault r.earlier (next_of rows refusal r) other ≡ true → ⊥
lowest-as rows refusal r c other is less has = r.fault.lowest (Text other) (omega (arith, less, ap fault_number is)) has

pub counted-at : (rows : List (List (List ℕ))) (refusal : Refusal) → IsRefused rows refusal → 1 ≤ refusal.at
counted-at rows refusal r = omega (arith, r.at)

-- A record after the header and before the end, and what a test of it says.
record Going (s : List Record) (next : Option (List (List ℕ))) (test : List (List ℕ) → Bool) : Type 0 where
  fields : List (List ℕ)
  is : next ≡ Some fields
  some : is_first s ≡ false
  unended : has_ended s ≡ false
  passes : test fields ≡ true

going-by : (s : List Record) (fields : List (List ℕ)) (test : List (List ℕ) → Bool) (first ended : Bool) → is_first s ≡ first → has_ended s ≡ ended → (not (first || ended) && test fields) ≡ true → Going s (Some fields) test
going-by s fields test true ended one two h = absurd (false≢true h)
going-by s fields test false true one two h = absurd (false≢true h)
going-by s fields test false false one two h = record { fields = fields; is = refl; some = one; unended = two; passes = h }

going : (s : List Record) (next : Option (List (List ℕ))) (test : List (List ℕ) → Bool) → if_going s next test ≡ true → Going s next test
going s None test h = absurd (false≢true h)
going s (Some fields) test h = going-by s fields test (is_first s) (has_ended s) refl refl h

record HasKind (found : Option TrackKind) (test : TrackKind → Bool) : Type 0 where
  kind : TrackKind
  named : found ≡ Some kind
  passes : test kind ≡ true

kind-by : (found : Option TrackKind) (test : TrackKind → Bool) → if_said found test ≡ true → HasKind found test
kind-by None test h = absurd (false≢true h)
kind-by (Some kind) test h = record { kind = kind; named = refl; passes = h }

-- The line holds the record.
pub record IsLine (text : List ℕ) (refusal : Refusal) (r : IsRefused (records_of text) refusal) (line : List ℕ) (test : TrackKind → List (List ℕ) → Bool) : Type 0 where
  pub kind : TrackKind
  pub named : kind_named (version_of (shared_of r.earlier)) (field (fields_in line) 0) ≡ Some kind
  pub passes : test kind (fields_in line) ≡ true
  pub next : next_of (records_of text) refusal r ≡ Some (fields_in line)
  pub some : is_first (shared_of r.earlier) ≡ false
  pub unended : has_ended (shared_of r.earlier) ≡ false
  pub enough : refusal.at ≤ length (written (file_lines text)) + 1

pub line-kind : (text : List ℕ) (refusal : Refusal) (r : IsRefused (records_of text) refusal) (line : List ℕ) (test : TrackKind → List (List ℕ) → Bool) → IsRecord (file_lines text) refusal.at line
    → if_going (shared_of r.earlier) (next_of (records_of text) refusal r) (λ fields. if_said (kind_named (version_of (shared_of r.earlier)) (field fields 0)) (λ kind. test kind fields)) ≡ true → IsLine text refusal r line test
line-kind text refusal r line test place h =
    let g = going (shared_of r.earlier) (next_of (records_of text) refusal r) (λ fields. if_said (kind_named (version_of (shared_of r.earlier)) (field fields 0)) (λ kind. test kind fields)) h in
    let at : refusal.at - 1 ≡ length r.earlier = omega (arith, r.at) in
    let stands = stands-record text refusal.at place.0 line g.fields place.1 (ap (slice_get (records_of text)) at ∙ g.is) in
    let k = kind-by (kind_named (version_of (shared_of r.earlier)) (field g.fields 0)) (λ kind. test kind g.fields) g.passes in
    record {
      kind = k.kind;
      named = ap (λ (fs : List (List ℕ)). kind_named (version_of (shared_of r.earlier)) (field fs 0)) stands.1 ∙ k.named;
      passes = ap (test k.kind) stands.1 ∙ k.passes;
      next = g.is ∙ ap Some (sym stands.1);
      some = g.some;
      unended = g.unended;
      enough = enough-lines (file_lines text) refusal.at place.0 line stands.0;
    }

-- The codes of a record of a known kind.
fields-fault : (earlier : List TrackRecord) (next : Option (List (List ℕ))) (c : Code) → is_of_fields c ≡ true → has_text_fault earlier next c ≡ true
    → if_going (shared_of earlier) next (λ fields. if_said (kind_named (version_of (shared_of earlier)) (field fields 0)) (λ kind. wrong_by c kind fields)) ≡ true
unfolding has_text_fault
fields-fault earlier next code.Fields k h = h
fields-fault earlier next code.Number k h = h
fields-fault earlier next code.Address k h = h
fields-fault earlier next code.Mask k h = h
fields-fault earlier next code.Header k h = absurd (false≢true k)
fields-fault earlier next code.Kind k h = absurd (false≢true k)
fields-fault earlier next code.Repeat k h = absurd (false≢true k)
fields-fault earlier next code.Unknown k h = absurd (false≢true k)
fields-fault earlier next code.Count k h = absurd (false≢true k)
fields-fault earlier next code.Box k h = absurd (false≢true k)
fields-fault earlier next code.NoEnd k h = absurd (false≢true k)
fields-fault earlier next code.After k h = absurd (false≢true k)

earlier-fault : (earlier : List TrackRecord) (next : Option (List (List ℕ))) (c : Code) → is_of_earlier c ≡ true → has_text_fault earlier next c ≡ true
    → if_going (shared_of earlier) next (λ fields. if_said (kind_named (version_of (shared_of earlier)) (field fields 0)) (λ kind. against_by c earlier kind fields)) ≡ true
unfolding has_text_fault
earlier-fault earlier next code.Repeat k h = h
earlier-fault earlier next code.Unknown k h = h
earlier-fault earlier next code.Count k h = h
earlier-fault earlier next code.Fields k h = absurd (false≢true k)
earlier-fault earlier next code.Number k h = absurd (false≢true k)
earlier-fault earlier next code.Address k h = absurd (false≢true k)
earlier-fault earlier next code.Mask k h = absurd (false≢true k)
earlier-fault earlier next code.Header k h = absurd (false≢true k)
earlier-fault earlier next code.Kind k h = absurd (false≢true k)
earlier-fault earlier next code.Box k h = absurd (false≢true k)
earlier-fault earlier next code.NoEnd k h = absurd (false≢true k)
earlier-fault earlier next code.After k h = absurd (false≢true k)

later-code : (c : Code) → is_of_fields c ≡ true → told.is_fields c ≡ false → code_number code.Fields < code_number c
later-code code.Fields k h = absurd (false≢true (sym h))
later-code code.Number k h = omega arith
later-code code.Address k h = omega arith
later-code code.Mask k h = omega arith
later-code code.Header k h = absurd (false≢true k)
later-code code.Kind k h = absurd (false≢true k)
later-code code.Repeat k h = absurd (false≢true k)
later-code code.Unknown k h = absurd (false≢true k)
later-code code.Count k h = absurd (false≢true k)
later-code code.Box k h = absurd (false≢true k)
later-code code.NoEnd k h = absurd (false≢true k)
later-code code.After k h = absurd (false≢true k)

count-fine : (earlier : List TrackRecord) (next : Option (List (List ℕ))) (fields : List (List ℕ)) (k : TrackKind) → next ≡ Some fields → is_first (shared_of earlier) ≡ false → has_ended (shared_of earlier) ≡ false
    → kind_named (version_of (shared_of earlier)) (field fields 0) ≡ Some k → (has_text_fault earlier next code.Fields ≡ true → ⊥) → is_count_wrong k fields ≡ false
unfolding has_text_fault
count-fine earlier next fields k is some unended named fine = no-true (is_count_wrong k fields) (rw (is, some, unended, named) at fine)

pub line-kind-none : (text : List ℕ) (refusal : Refusal) (r : IsRefused (records_of text) refusal) (line : List ℕ) (test : TrackKind → List (List ℕ) → Bool) (version : ℕ) → IsFormat text version → IsLine text refusal r line test
    → kind_named version (field (fields_in line) 0) ≡ None → ⊥
line-kind-none text refusal r line test version format l none = none-some l.kind (sym none ∙ ap (λ v. kind_named v (field (fields_in line) 0)) (sym (format refusal r l.some)) ∙ l.named)

-- It is the kind that was found.
line-kind-same : (text : List ℕ) (refusal : Refusal) (r : IsRefused (records_of text) refusal) (line : List ℕ) (test : TrackKind → List (List ℕ) → Bool) (version : ℕ) (of : LineKind) → IsFormat text version → IsLine text refusal r line test
    → IsKindNamed version (field (fields_in line) 0) of → kind_named (version_of (shared_of r.earlier)) (field (fields_in line) 0) ≡ Some (stated_line of)
line-kind-same text refusal r line test version of format l found = ap (λ v. kind_named v (field (fields_in line) 0)) (format refusal r l.some) ∙ found.named

-- A record of a kind that was found has the fault by itself.
pub fields-line : (text : List ℕ) (refusal : Refusal) (r : IsRefused (records_of text) refusal) (line : List ℕ) (c : Code) → refusal.fault ≡ Text c → is_of_fields c ≡ true → IsRecord (file_lines text) refusal.at line
    → IsLine text refusal r line (wrong_by c)
fields-line text refusal r line c is k place = line-kind text refusal r line (wrong_by c) place (fields-fault r.earlier (next_of (records_of text) refusal r) c k (faulty-as (records_of text) refusal r c is))

pub line-wrong : (text : List ℕ) (refusal : Refusal) (r : IsRefused (records_of text) refusal) (line : List ℕ) (c : Code) (version : ℕ) (of : LineKind) → refusal.fault ≡ Text c → is_of_fields c ≡ true → IsRecord (file_lines text) refusal.at line
    → IsFormat text version → IsKindNamed version (field (fields_in line) 0) of → IsWrong c (stated_line of) (fields_in line)
line-wrong text refusal r line c version of is k place format found =
    let l = fields-line text refusal r line c is k place in
    let named = line-kind-same text refusal r line (wrong_by c) version of format l found in
    let same : l.kind ≡ stated_line of = same_Some l.kind (stated_line of) (sym l.named ∙ named) in
    record {
      wrong = ap (λ k. wrong_by c k (fields_in line)) (sym same) ∙ l.passes;
      counted = λ later. count-fine r.earlier (next_of (records_of text) refusal r) (fields_in line) (stated_line of) l.next l.some l.unended named
          (lowest-as (records_of text) refusal r c code.Fields is (later-code c k later));
    }

-- The same after those before it.
pub earlier-line : (text : List ℕ) (refusal : Refusal) (r : IsRefused (records_of text) refusal) (line : List ℕ) (c : Code) → refusal.fault ≡ Text c → is_of_earlier c ≡ true → IsRecord (file_lines text) refusal.at line
    → IsLine text refusal r line (against_by c r.earlier)
earlier-line text refusal r line c is k place = line-kind text refusal r line (against_by c r.earlier) place (earlier-fault r.earlier (next_of (records_of text) refusal r) c k (faulty-as (records_of text) refusal r c is))

pub line-against : (text : List ℕ) (refusal : Refusal) (r : IsRefused (records_of text) refusal) (line : List ℕ) (c : Code) (version : ℕ) (of : LineKind) → refusal.fault ≡ Text c → is_of_earlier c ≡ true → IsRecord (file_lines text) refusal.at line
    → IsFormat text version → IsKindNamed version (field (fields_in line) 0) of → IsAgainst text refusal c (stated_line of) line
line-against text refusal r line c version of is k place format found =
    let l = earlier-line text refusal r line c is k place in
    let same : l.kind ≡ stated_line of = same_Some l.kind (stated_line of) (sym l.named ∙ line-kind-same text refusal r line (against_by c r.earlier) version of format l found) in
    record { refused = r; fault = ap (λ k. against_by c r.earlier k (fields_in line)) (sym same) ∙ l.passes; some = l.some; enough = l.enough }

-- What is told, by the fault of the refusal.
pub tells-by : (text : List ℕ) (refusal : Refusal) (r : IsRefused (records_of text) refusal) (line : List ℕ) (w : TrackWhy) (f : Fault) → refusal.fault ≡ f → TellsFault f text r.earlier refusal.at line w → Tells text refusal line w
tells-by text refusal r line w f is t = record { refused = r; tells = subst (λ (g : Fault). TellsFault g text r.earlier refusal.at line w) (sym is) t }

fields-told : (c : Code) (text : List ℕ) (earlier : List TrackRecord) (at : ℕ) (line : List ℕ) (w : TrackWhy) → is_of_fields c ≡ true → TellsOf line (λ kind. TellsFields c kind line w) → TellsText c text earlier at line w
fields-told code.Fields text earlier at line w k t = t
fields-told code.Number text earlier at line w k t = t
fields-told code.Address text earlier at line w k t = t
fields-told code.Mask text earlier at line w k t = t
fields-told code.Header text earlier at line w k t = absurd (false≢true k)
fields-told code.Kind text earlier at line w k t = absurd (false≢true k)
fields-told code.Repeat text earlier at line w k t = absurd (false≢true k)
fields-told code.Unknown text earlier at line w k t = absurd (false≢true k)
fields-told code.Count text earlier at line w k t = absurd (false≢true k)
fields-told code.Box text earlier at line w k t = absurd (false≢true k)
fields-told code.NoEnd text earlier at line w k t = absurd (false≢true k)
fields-told code.After text earlier at line w k t = absurd (false≢true k)

earlier-told : (c : Code) (text : List ℕ) (earlier : List TrackRecord) (at : ℕ) (line : List ℕ) (w : TrackWhy) → is_of_earlier c ≡ true → TellsOf line (λ kind. TellsAgainst c text earlier kind (fields_in line) w) → TellsText c text earlier at line w
earlier-told code.Repeat text earlier at line w k t = t
earlier-told code.Unknown text earlier at line w k t = t
earlier-told code.Count text earlier at line w k t = t
earlier-told code.Fields text earlier at line w k t = absurd (false≢true k)
earlier-told code.Number text earlier at line w k t = absurd (false≢true k)
earlier-told code.Address text earlier at line w k t = absurd (false≢true k)
earlier-told code.Mask text earlier at line w k t = absurd (false≢true k)
earlier-told code.Header text earlier at line w k t = absurd (false≢true k)
earlier-told code.Kind text earlier at line w k t = absurd (false≢true k)
earlier-told code.Box text earlier at line w k t = absurd (false≢true k)
earlier-told code.NoEnd text earlier at line w k t = absurd (false≢true k)
earlier-told code.After text earlier at line w k t = absurd (false≢true k)

pub tells-fields : (text : List ℕ) (refusal : Refusal) (r : IsRefused (records_of text) refusal) (line : List ℕ) (w : TrackWhy) (c : Code) (of : LineKind) → refusal.fault ≡ Text c → is_of_fields c ≡ true → IsLineKind line of → TellsFields c of line w
    → Tells text refusal line w
tells-fields text refusal r line w c of is k found t = tells-by text refusal r line w (Text c) is (fields-told c text r.earlier refusal.at line w k (of, found, t))

pub tells-earlier : (text : List ℕ) (refusal : Refusal) (line : List ℕ) (w : TrackWhy) (c : Code) (of : LineKind) → refusal.fault ≡ Text c → is_of_earlier c ≡ true → IsLineKind line of → TellsEarlier text refusal c of line w → Tells text refusal line w
tells-earlier text refusal line w c of is k found t = tells-by text refusal t.refused line w (Text c) is (earlier-told c text t.refused.earlier refusal.at line w k (of, found, t.tells))

-- A first field that names no kind.
kind-fault : (earlier : List TrackRecord) (next : Option (List (List ℕ))) → has_text_fault earlier next code.Kind ≡ true → if_going (shared_of earlier) next (λ fields. is_none (kind_named (version_of (shared_of earlier)) (field fields 0))) ≡ true
unfolding has_text_fault
kind-fault earlier next h = h

none-named : (o : Option TrackKind) → is_none o ≡ true → o ≡ None
none-named None h = refl
none-named (Some k) h = absurd (false≢true h)

-- The format that the text has is that of the records so far.
pub record IsUnnamed (text : List ℕ) (refusal : Refusal) (r : IsRefused (records_of text) refusal) (line : List ℕ) : Type 0 where
  pub named : kind_named (version_of (shared_of r.earlier)) (field (fields_in line) 0) ≡ None
  pub some : is_first (shared_of r.earlier) ≡ false

pub unnamed-line : (text : List ℕ) (refusal : Refusal) (r : IsRefused (records_of text) refusal) (line : List ℕ) → refusal.fault ≡ Text code.Kind → IsRecord (file_lines text) refusal.at line → IsUnnamed text refusal r line
unnamed-line text refusal r line is place =
    let test : List (List ℕ) → Bool = λ fields. is_none (kind_named (version_of (shared_of r.earlier)) (field fields 0)) in
    let g = going (shared_of r.earlier) (next_of (records_of text) refusal r) test (kind-fault r.earlier (next_of (records_of text) refusal r) (faulty-as (records_of text) refusal r code.Kind is)) in
    let at : refusal.at - 1 ≡ length r.earlier = omega (arith, r.at) in
    let stands = stands-record text refusal.at place.0 line g.fields place.1 (ap (slice_get (records_of text)) at ∙ g.is) in
    record {
      named = ap (λ (fs : List (List ℕ)). kind_named (version_of (shared_of r.earlier)) (field fs 0)) stands.1 ∙ none-named (kind_named (version_of (shared_of r.earlier)) (field g.fields 0)) g.passes;
      some = g.some;
    }

-- No aircraft is outside the box.
box-never : (earlier : List TrackRecord) (next : Option (List (List ℕ))) → has_text_fault earlier next code.Box ≡ true → ⊥
unfolding has_text_fault
box-never earlier next h = false≢true h

pub no-box : (rows : List (List (List ℕ))) (refusal : Refusal) → IsRefused rows refusal → refusal.fault ≡ Text code.Box → ⊥
no-box rows refusal r is = box-never r.earlier (next_of rows refusal r) (faulty-as rows refusal r code.Box is)

-- The record before one that stands after the end.
after-fault : (earlier : List TrackRecord) (next : Option (List (List ℕ))) → has_text_fault earlier next code.After ≡ true → has_ended (shared_of earlier) ≡ true
unfolding has_text_fault
after-fault earlier next h = second (is_some next) (has_ended (shared_of earlier)) h where
  second : (a b : Bool) → (a && b) ≡ true → b ≡ true
  second true b h = h
  second false b h = absurd (false≢true h)

ended-record : (s : List Record) (now : Record) → has_ended (now ∷ s) ≡ true → has_ended s ≡ false → is_end now ≡ true
ended-record s said.End h none = refl
ended-record s (said.Header version) h none = absurd (both_ways _ none h)
ended-record s (said.Run run) h none = absurd (both_ways _ none h)
ended-record s (said.Gains gains) h none = absurd (both_ways _ none h)
ended-record s (said.Craft craft) h none = absurd (both_ways _ none h)
ended-record s (said.Climb address limit) h none = absurd (both_ways _ none h)
ended-record s (said.Leg address course) h none = absurd (both_ways _ none h)
ended-record s (said.Miss pair from to) h none = absurd (both_ways _ none h)
ended-record s (said.Plan pair copies) h none = absurd (both_ways _ none h)
ended-record s (said.Fate pair number copies) h none = absurd (both_ways _ none h)
ended-record s (said.Profile profile) h none = absurd (both_ways _ none h)
ended-record s (said.Name text) h none = absurd (both_ways _ none h)
ended-record s (said.Clock second) h none = absurd (both_ways _ none h)
ended-record s (said.Call address sign) h none = absurd (both_ways _ none h)

ended-now : (before : List TrackRecord) (now : TrackRecord) → has_ended (shared_of (now ∷ before)) ≡ true → has_ended (shared_of before) ≡ false → ends now ≡ true
ended-now before (At address point) h none = absurd (both_ways _ none h)
ended-now before (Shared now) h none = ended-record (shared_of before) now h none

header-end : (o : Option ℕ) (now : TrackRecord) → needs o code.Header (λ version. Ok (Shared (said.Header version))) ≡ Ok now → ends now ≡ true → ⊥
header-end None now is end = absurd (cc is)
header-end (Some version) now is end = let same : Shared (said.Header version) ≡ now = cc is in false≢true (ap ends same ∙ end)

said-end : (before : List TrackRecord) (row : List (List ℕ)) (now : TrackRecord) → said_by before row ≡ Ok now → ends now ≡ true → row ≡ end_record
said-end [] row now is end = absurd (header-end (version_in row) now is end)
said-end (last ∷ before) row now is end = ends-fields (version_of (shared_of (last ∷ before))) row now is end

-- Nothing is passed after the end.
ended-all : (before : List TrackRecord) (rows : List (List (List ℕ))) (all : List TrackRecord) → has_ended (shared_of before) ≡ true → ArePassed before rows all → before ≡ all
ended-all before [] all ended passed = passed
ended-all before (row ∷ rows) all ended passed = absurd (both_ways _ (unended before row passed.0) ended)

passed-size : (before : List TrackRecord) (rows : List (List (List ℕ))) (all : List TrackRecord) → ArePassed before rows all → length all ≡ length before + length rows
passed-size before [] all passed = omega (arith, ap (λ (l : List TrackRecord). length l) passed)
passed-size before (row ∷ rows) all passed = omega (arith, passed-size (passed.1.0 ∷ before) rows all passed.1.2)

not-yet : (before : List TrackRecord) (rows : List (List (List ℕ))) (all : List TrackRecord) → ArePassed before rows all → has_ended (shared_of all) ≡ true → has_ended (shared_of before) ≡ false → length before < length all
not-yet before [] all passed ended none = absurd (both_ways _ none (ap (λ (l : List TrackRecord). has_ended (shared_of l)) passed ∙ ended))
not-yet before (row ∷ rows) all passed ended none = omega (arith, passed-size before (row ∷ rows) all passed)

last-end : (before : List TrackRecord) (k : ℕ) (rows : List (List (List ℕ))) (all : List TrackRecord) (n : ℕ) → ArePassed before (take k rows) all → has_ended (shared_of all) ≡ true → has_ended (shared_of before) ≡ false
    → length all ≡ suc n + length before → slice_get rows n ≡ Some end_record
last-end before zero rows all n passed ended none size = absurd (both_ways _ none (ap (λ (l : List TrackRecord). has_ended (shared_of l)) passed ∙ ended))
last-end before (suc k) [] all n passed ended none size = absurd (both_ways _ none (ap (λ (l : List TrackRecord). has_ended (shared_of l)) passed ∙ ended))
last-end before (suc k) (row ∷ rows) all n passed ended none size = by (has_ended (shared_of (passed.1.0 ∷ before))) refl n size (λ e m more. last-end (passed.1.0 ∷ before) k rows all m passed.1.2 ended e more) where
  by : (b : Bool) → has_ended (shared_of (passed.1.0 ∷ before)) ≡ b → (m : ℕ) → length all ≡ suc m + length before
      → (has_ended (shared_of (passed.1.0 ∷ before)) ≡ false → (m : ℕ) → length all ≡ suc m + length (passed.1.0 ∷ before) → slice_get rows m ≡ Some end_record) → slice_get (row ∷ rows) m ≡ Some end_record
  by true e zero size later = ap Some (said-end before row passed.1.0 passed.1.1 (ended-now before passed.1.0 e none))
  by true e (suc m) size later = absurd (omega (arith, size, ap (λ (l : List TrackRecord). length l) (ended-all (passed.1.0 ∷ before) (take k rows) all e passed.1.2)))
  by false e zero size later = absurd (omega (arith, size, not-yet (passed.1.0 ∷ before) (take k rows) all passed.1.2 ended e))
  by false e (suc m) size later = later e m (omega (arith, size))

ended-some : (earlier : List TrackRecord) → has_ended (shared_of earlier) ≡ true → 1 ≤ length earlier
ended-some [] h = absurd (false≢true h)
ended-some (now ∷ earlier) h = omega arith

pub after-counted : (rows : List (List (List ℕ))) (refusal : Refusal) → IsRefused rows refusal → refusal.fault ≡ Text code.After → 1 ≤ refusal.at - 1
after-counted rows refusal r is =
    let ended = after-fault r.earlier (next_of rows refusal r) (faulty-as rows refusal r code.After is) in
    omega (arith, r.at, ended-some r.earlier ended)

pub after-at : (text : List ℕ) (refusal : Refusal) (r : IsRefused (records_of text) refusal) (number : ℕ) (line : List ℕ) → refusal.fault ≡ Text code.After → Stands (file_lines text) (refusal.at - 1) number line
    → IsPlaced (file_lines text) (refusal.at - 1) number line × (line ≡ codes "end")
after-at text refusal r number line is place =
    let ended = after-fault r.earlier (next_of (records_of text) refusal r) (faulty-as (records_of text) refusal r code.After is) in
    let some = ended-some r.earlier ended in
    let at : refusal.at - 1 - 1 ≡ length r.earlier - 1 = omega (arith, r.at) in
    let end = last-end [] (length r.earlier) (records_of text) r.earlier (length r.earlier - 1) r.passed ended refl (omega (arith, some)) in
    let stands = stands-record text (refusal.at - 1) number line end_record place (ap (slice_get (records_of text)) at ∙ end) in
    (stands.0, one-field line stands.1)
