-- What a refusal says of the record that is refused.
use Rattle.std.proofs.Common.{◌≡◌, ◌∙◌, ℕ, ◌-◌, ◌<◌, ◌≤◌, Bool, true, false, ◌&&◌, not, List, [], ◌∷◌, ◌++◌, length, map, Option, Some, None, refl, sym, ap, subst, arith, inl, inr}
use Rattle.std.specs.Prelude.{◌⊎◌, ◌||◌, MatchBool, codes, is_none, is_some, slice_get, Err}
use Rattle.std.proofs.lemmas.Bool.{false≢true}
use Rattle.std.specs.List.{join_with_byte}
use Rattle.std.proofs.lemmas.List.Elements.{filter-append}
use Rattle.std.proofs.lemmas.List.Splits.{join_with_byte-slice_split}
use Rattle.std.proofs.lemmas.Option.{none-some, same_Some, slice_get-map, slice_get_past}
use Rattle.enc_file.specs.Codes.{code_number}
use Rattle.enc_file.specs.Conditions.{IsRefused, has_fault, if_going, if_kind, if_said, is_first, kind_named}
use Rattle.enc_file.specs.Conditions as stated
use Rattle.enc_file.specs.Earlier.{has_ended, version_of}
use Rattle.enc_file.specs.Reading.{reading_of}
use Rattle.enc_file.specs.Records.{records_of}
use Rattle.enc_file.specs.Saying.{version_in}
use Rattle.enc_file.proofs.Begun.{refused-end, refused-first, refused-some}
use Rattle.enc_file.specs.Values.{field}
use Rattle.enc_file.specs.declared.refusal.Code.{Code}
use Rattle.enc_file.specs.declared.refusal.Code.TheVariants as code
use Rattle.enc_file.specs.declared.refusal.Refusal.{Refusal}
use Rattle.enc_file.proofs.StatedText.{refused-by}
use Rattle.fault_text.specs.Lines.{IsBehind, IsPlaced, Stands, fields_in, file_lines, is_written, written}
use Rattle.fault_text.specs.Told.{IsAtFault, IsFormat, IsHeaded, IsRecord, is_fields, wrong_by}
use Rattle.fault_text.proofs.RecordLines.{records-are-lines}

-- The record that stands in a line.

at-middle : {X : Type 0} (xs ys : List X) (y : X) → slice_get (xs ++ y ∷ ys) (length xs) ≡ Some y
at-middle [] ys y = refl
at-middle (x ∷ xs) ys y = at-middle xs ys y

kept : (line : List ℕ) (after : List (List ℕ)) → is_written line ≡ true → written (line ∷ after) ≡ line ∷ written after
kept line after is = rw is refl

pub placed-record : (lines : List (List ℕ)) (at number : ℕ) (line : List ℕ) → IsPlaced lines at number line → slice_get (map fields_in (written lines)) (at - 1) ≡ Some (fields_in line)
placed-record lines at number line p =
    let all : written lines ≡ written p.before ++ line ∷ written p.after = ap written p.whole ∙ filter-append is_written p.before (line ∷ p.after) ∙ ap (λ t. written p.before ++ t) (kept line p.after p.written) in
    let place : at - 1 ≡ length (written p.before) = omega (arith, p.counted) in
    slice_get-map fields_in (written lines) (at - 1) ∙ rw (place, all, at-middle (written p.before) (written p.after) line) refl

pub behind-record : (lines : List (List ℕ)) (at number : ℕ) → IsBehind lines at number → slice_get (map fields_in (written lines)) (at - 1) ≡ None
behind-record lines at number b =
    slice_get-map fields_in (written lines) (at - 1) ∙ rw (slice_get_past (written lines) (at - 1) (omega (arith, b.few))) refl

-- Where there is a record with a number, it stands in the line that was found.
standing : (b : Bool) (lines : List (List ℕ)) (at number : ℕ) (line : List ℕ) (fields : List (List ℕ)) → is_written line ≡ b → MatchBool b (IsPlaced lines at number line) (IsBehind lines at number)
    → slice_get (map fields_in (written lines)) (at - 1) ≡ Some fields → IsPlaced lines at number line × (fields_in line ≡ fields)
standing true lines at number line fields is p h = (p, same_Some (fields_in line) fields (sym (placed-record lines at number line p) ∙ h))
standing false lines at number line fields is p h = absurd (none-some fields (sym (behind-record lines at number p) ∙ h))

pub stands-record : (text : List ℕ) (at number : ℕ) (line : List ℕ) (fields : List (List ℕ)) → Stands (file_lines text) at number line → slice_get (records_of text) (at - 1) ≡ Some fields
    → IsPlaced (file_lines text) at number line × (fields_in line ≡ fields)
stands-record text at number line fields p h =
    standing (is_written line) (file_lines text) at number line fields refl p (ap (λ rows. slice_get rows (at - 1)) (sym (records-are-lines text)) ∙ h)

-- A record after the header and before the end, and what a test of it says.
abbrev going_by : Bool → Bool → Option (List (List ℕ)) → (List (List ℕ) → Bool) → Bool
going_by first ended None test = false
going_by first ended (Some fields) test = not (first || ended) && test fields

pub record IsGoing (first ended : Bool) (next : Option (List (List ℕ))) (test : List (List ℕ) → Bool) : Type 0 where
  pub fields : List (List ℕ)
  pub is : next ≡ Some fields
  pub unfirst : first ≡ false
  pub unended : ended ≡ false
  pub passes : test fields ≡ true

going-is : (first ended : Bool) (next : Option (List (List ℕ))) (test : List (List ℕ) → Bool) → going_by first ended next test ≡ true → IsGoing first ended next test
going-is first ended None test h = absurd (false≢true h)
going-is true ended (Some fields) test h = absurd (false≢true h)
going-is false true (Some fields) test h = absurd (false≢true h)
going-is false false (Some fields) test h = record { fields = fields; is = refl; unfirst = refl; unended = refl; passes = h }

going-same : (rows : List (List (List ℕ))) (refusal : Refusal) (r : IsRefused rows refusal) (next : Option (List (List ℕ))) (test : List (List ℕ) → Bool)
    → if_going r.earlier next test ≡ going_by (is_first r.earlier) (has_ended r.earlier) next test
going-same rows refusal r None test = refl
going-same rows refusal r (Some fields) test = refl

abbrev pub next_of : (rows : List (List (List ℕ))) (refusal : Refusal) → IsRefused rows refusal → Option (List (List ℕ))
next_of rows refusal r = slice_get rows (length r.earlier)

pub going : (rows : List (List (List ℕ))) (refusal : Refusal) (r : IsRefused rows refusal) (test : List (List ℕ) → Bool) → if_going r.earlier (next_of rows refusal r) test ≡ true
    → IsGoing (is_first r.earlier) (has_ended r.earlier) (next_of rows refusal r) test
going rows refusal r test h = going-is (is_first r.earlier) (has_ended r.earlier) (next_of rows refusal r) test (sym (going-same rows refusal r (next_of rows refusal r) test) ∙ h)

-- Its kind.
pub record HasKind (found : Option stated.RecordKind) (test : stated.RecordKind → Bool) : Type 0 where
  pub kind : stated.RecordKind
  pub named : found ≡ Some kind
  pub passes : test kind ≡ true

pub kind-by : (named : Option stated.RecordKind) (test : stated.RecordKind → Bool) → if_said named test ≡ true → HasKind named test
kind-by None test h = absurd (false≢true h)
kind-by (Some kind) test h = record { kind = kind; named = refl; passes = h }

-- The codes of a record of a known kind that are told field by field.
abbrev pub is_kinded : Code → Bool
is_kinded code.Fields = true
is_kinded code.Number = true
is_kinded code.Address = true
is_kinded code.Mask = true
is_kinded other = false

kinded-fault : (rows : List (List (List ℕ))) (refusal : Refusal) (r : IsRefused rows refusal) (c : Code) → is_kinded c ≡ true → has_fault r.earlier (next_of rows refusal r) c ≡ true → if_kind r.earlier (next_of rows refusal r) (wrong_by c) ≡ true
unfolding has_fault
kinded-fault rows refusal r code.Fields k h = h
kinded-fault rows refusal r code.Number k h = h
kinded-fault rows refusal r code.Address k h = h
kinded-fault rows refusal r code.Mask k h = h
kinded-fault rows refusal r code.Header k h = absurd (false≢true k)
kinded-fault rows refusal r code.Kind k h = absurd (false≢true k)
kinded-fault rows refusal r code.Repeat k h = absurd (false≢true k)
kinded-fault rows refusal r code.Unknown k h = absurd (false≢true k)
kinded-fault rows refusal r code.Count k h = absurd (false≢true k)
kinded-fault rows refusal r code.Box k h = absurd (false≢true k)
kinded-fault rows refusal r code.NoEnd k h = absurd (false≢true k)
kinded-fault rows refusal r code.After k h = absurd (false≢true k)

later-code : (c : Code) → is_kinded c ≡ true → is_fields c ≡ false → code_number code.Fields < code_number c
later-code code.Fields k h = absurd (false≢true (sym h))
later-code code.Number k h = omega arith
later-code code.Address k h = omega arith
later-code code.Mask k h = omega arith
later-code code.Header k h = absurd (false≢true k)
later-code code.Kind k h = absurd (false≢true k)
later-code code.Repeat k h = absurd (false≢true k)
later-code code.Unknown k h = absurd (false≢true k)
later-code code.Count k h = absurd (false≢true k)
later-code code.Box k h = absurd (false≢true k)
later-code code.NoEnd k h = absurd (false≢true k)
later-code code.After k h = absurd (false≢true k)

counted-by : (first ended : Bool) (next : Option (List (List ℕ))) (named : List (List ℕ) → Option stated.RecordKind) (fields : List (List ℕ)) (kind : stated.RecordKind) → first ≡ false → ended ≡ false → next ≡ Some fields → named fields ≡ Some kind
    → going_by first ended next (λ fields. if_said (named fields) (λ kind. stated.is_count_wrong kind fields)) ≡ false → stated.is_count_wrong kind fields ≡ false
counted-by first ended next named fields kind a b c d h = rw (a, b, c, d) at h

counted-fault : (rows : List (List (List ℕ))) (refusal : Refusal) (r : IsRefused rows refusal) → has_fault r.earlier (next_of rows refusal r) code.Fields ≡ false
    → going_by (is_first r.earlier) (has_ended r.earlier) (next_of rows refusal r) (λ fields. if_said (kind_named (version_of r.earlier) (field fields 0)) (λ kind. stated.is_count_wrong kind fields)) ≡ false
unfolding has_fault
counted-fault rows refusal r h = sym (going-same rows refusal r (next_of rows refusal r) (λ fields. if_said (kind_named (version_of r.earlier) (field fields 0)) (λ kind. stated.is_count_wrong kind fields))) ∙ h

-- A refusal of a text.
pub refused-text : (text : List ℕ) (refusal : Refusal) → reading_of text ≡ Err refusal → IsRefused (records_of text) refusal
refused-text text refusal h = refused-by (records_of text) refusal h

pub counted-at : (text : List ℕ) (refusal : Refusal) → reading_of text ≡ Err refusal → 1 ≤ refusal.at
counted-at text refusal h = let r = refused-text text refusal h in omega (arith, r.at)

-- The line holds the record.
pub line-is : (text : List ℕ) (refusal : Refusal) (line : List ℕ) (fields : List (List ℕ)) (r : IsRefused (records_of text) refusal) → IsRecord (file_lines text) refusal.at line → next_of (records_of text) refusal r ≡ Some fields → fields_in line ≡ fields
line-is text refusal line fields r place is =
    let at : refusal.at - 1 ≡ length r.earlier = omega (arith, r.at) in
    (stands-record text refusal.at place.0 line fields place.1 (ap (slice_get (records_of text)) at ∙ is)).1

-- The version that the first line says is that of the records so far.
pub version-is : (text : List ℕ) (refusal : Refusal) (version : ℕ) (r : IsRefused (records_of text) refusal) → is_first r.earlier ≡ false → IsFormat text version → version_of r.earlier ≡ version
version-is text refusal version r first format =
    let head = refused-first (records_of text) refusal r first in
    let placed : slice_get (records_of text) 0 ≡ Some (fields_in format.line) = ap (λ rows. slice_get rows 0) (records-are-lines text) ∙ placed-record (file_lines text) 1 format.number format.line format.first in
    let same : fields_in format.line ≡ head.0 = same_Some (fields_in format.line) head.0 (sym placed ∙ head.1) in
    same_Some (version_of r.earlier) version (sym head.2 ∙ ap version_in (sym same) ∙ format.said)

pub headed-by : (text : List ℕ) (refusal : Refusal) (r : IsRefused (records_of text) refusal) → is_first r.earlier ≡ false → IsHeaded text
headed-by text refusal r first =
    let head = refused-first (records_of text) refusal r first in
    record { fields = head.0; first = head.1; header = ap is_some head.2 }

-- The text of a record of a known kind begins with a header, and the record is at fault.
pub kinded-headed : (text : List ℕ) (refusal : Refusal) → reading_of text ≡ Err refusal → is_kinded refusal.code ≡ true → IsHeaded text
kinded-headed text refusal h k =
    let r = refused-text text refusal h in
    let g = going (records_of text) refusal r _ (kinded-fault (records_of text) refusal r refusal.code k r.fault.faulty) in
    headed-by text refusal r g.unfirst

pub kinded-at : (text : List ℕ) (refusal : Refusal) (line : List ℕ) (version : ℕ) → reading_of text ≡ Err refusal → is_kinded refusal.code ≡ true → IsRecord (file_lines text) refusal.at line → IsFormat text version
    → IsAtFault version refusal.code (fields_in line)
kinded-at text refusal line version h k place format =
    let r = refused-text text refusal h in
    let g = going (records_of text) refusal r _ (kinded-fault (records_of text) refusal r refusal.code k r.fault.faulty) in
    let it = kind-by (kind_named (version_of r.earlier) (field g.fields 0)) (λ kind. wrong_by refusal.code kind g.fields) g.passes in
    let line-fields = line-is text refusal line g.fields r place g.is in
    let version-same = version-is text refusal version r g.unfirst format in
    rw (line-fields, ← version-same) (record {
      kind = it.kind;
      named = it.named;
      wrong = it.passes;
      counted = λ later.
          counted-by (is_first r.earlier) (has_ended r.earlier) (next_of (records_of text) refusal r) (λ fields. kind_named (version_of r.earlier) (field fields 0)) g.fields it.kind g.unfirst g.unended g.is it.named
          (counted-fault (records_of text) refusal r (r.fault.lowest code.Fields (later-code refusal.code k later)));
    })

-- The first field names no kind.
kind-fault : (rows : List (List (List ℕ))) (refusal : Refusal) (r : IsRefused rows refusal) → has_fault r.earlier (next_of rows refusal r) code.Kind ≡ true
    → if_going r.earlier (next_of rows refusal r) (λ fields. is_none (kind_named (version_of r.earlier) (field fields 0))) ≡ true
unfolding has_fault
kind-fault rows refusal r h = h

faulty-as : (rows : List (List (List ℕ))) (refusal : Refusal) (r : IsRefused rows refusal) (c : Code) → refusal.code ≡ c → has_fault r.earlier (next_of rows refusal r) c ≡ true
faulty-as rows refusal r c is = subst (λ (d : Code). has_fault r.earlier (next_of rows refusal r) d ≡ true) is r.fault.faulty

none-named : (o : Option stated.RecordKind) → is_none o ≡ true → o ≡ None
none-named None h = refl
none-named (Some k) h = absurd (false≢true h)

pub unnamed-headed : (text : List ℕ) (refusal : Refusal) → reading_of text ≡ Err refusal → refusal.code ≡ code.Kind → IsHeaded text
unnamed-headed text refusal h is =
    let r = refused-text text refusal h in
    let g = going (records_of text) refusal r (λ fields. is_none (kind_named (version_of r.earlier) (field fields 0))) (kind-fault (records_of text) refusal r (faulty-as (records_of text) refusal r code.Kind is)) in
    headed-by text refusal r g.unfirst

pub unnamed-at : (text : List ℕ) (refusal : Refusal) (line : List ℕ) (version : ℕ) → reading_of text ≡ Err refusal → refusal.code ≡ code.Kind → IsRecord (file_lines text) refusal.at line → IsFormat text version
    → kind_named version (field (fields_in line) 0) ≡ None
unnamed-at text refusal line version h is place format =
    let r = refused-text text refusal h in
    let g = going (records_of text) refusal r (λ fields. is_none (kind_named (version_of r.earlier) (field fields 0))) (kind-fault (records_of text) refusal r (faulty-as (records_of text) refusal r code.Kind is)) in
    let line-fields = line-is text refusal line g.fields r place g.is in
    let version-same = version-is text refusal version r g.unfirst format in
    ap (λ v. kind_named v (field (fields_in line) 0)) (sym version-same) ∙ ap (λ (fs : List (List ℕ)). kind_named (version_of r.earlier) (field fs 0)) line-fields
    ∙ none-named (kind_named (version_of r.earlier) (field g.fields 0)) g.passes

-- The record before one that stands after the end.
after-fault : (rows : List (List (List ℕ))) (refusal : Refusal) (r : IsRefused rows refusal) → has_fault r.earlier (next_of rows refusal r) code.After ≡ true → has_ended r.earlier ≡ true
unfolding has_fault
after-fault rows refusal r h = second (is_some (next_of rows refusal r)) (has_ended r.earlier) h where
  second : (a b : Bool) → (a && b) ≡ true → b ≡ true
  second true b h = h
  second false b h = absurd (false≢true h)

pub after-counted : (text : List ℕ) (refusal : Refusal) → reading_of text ≡ Err refusal → refusal.code ≡ code.After → 1 ≤ refusal.at - 1
after-counted text refusal h is =
    let r = refused-text text refusal h in
    let ended = after-fault (records_of text) refusal r (faulty-as (records_of text) refusal r code.After is) in
    omega (arith, r.at, refused-some (records_of text) refusal r ended)

pub one-field : (line : List ℕ) → fields_in line ≡ codes "end" ∷ [] → line ≡ codes "end"
one-field line h = sym (join_with_byte-slice_split 44 line) ∙ ap (join_with_byte 44) h

pub after-at : (text : List ℕ) (refusal : Refusal) (number : ℕ) (line : List ℕ) → reading_of text ≡ Err refusal → refusal.code ≡ code.After → Stands (file_lines text) (refusal.at - 1) number line
    → IsPlaced (file_lines text) (refusal.at - 1) number line × (line ≡ codes "end")
after-at text refusal number line h is place =
    let r = refused-text text refusal h in
    let ended = after-fault (records_of text) refusal r (faulty-as (records_of text) refusal r code.After is) in
    let at : refusal.at - 1 - 1 ≡ length r.earlier - 1 = omega (arith, r.at) in
    let stands = stands-record text (refusal.at - 1) number line (codes "end" ∷ []) place (ap (slice_get (records_of text)) at ∙ refused-end (records_of text) refusal r ended) in
    (stands.0, one-field line stands.1)

pub is-kinded : (c : Code) → (c ≡ code.Fields) ⊎ ((c ≡ code.Number) ⊎ ((c ≡ code.Address) ⊎ (c ≡ code.Mask))) → is_kinded c ≡ true
is-kinded c (inl e) = ap is_kinded e
is-kinded c (inr (inl e)) = ap is_kinded e
is-kinded c (inr (inr (inl e))) = ap is_kinded e
is-kinded c (inr (inr (inr e))) = ap is_kinded e
