-- The records before an `end` that is refused since an aircraft leaves the box.
use Rattle.std.proofs.Common.{◌≡◌, ◌∙◌, ℕ, ◌+◌, ◌<◌, ◌≤◌, Bool, true, false, List, [], ◌∷◌, ◌++◌, length, take, Option, Some, None, Ok, Err, refl, sym, ap, subst, append_assoc, arith}
use Rattle.std.specs.Prelude.{not, ◌||◌, ◌&&◌, if◌then◌else◌, Result}
use Rattle.std.proofs.lemmas.Bool.{false≢true}
use Rattle.std.proofs.lemmas.List.{append-nil}
use Rattle.std.proofs.lemmas.Option.{slice_get_within}
use Rattle.flight.specs.Inside.{IsInside, stays_inside}
use Rattle.flight.proofs.Boxed.{stays-inside}
use Rattle.enc_file.specs.Codes.{code_number}
use Rattle.enc_file.specs.Conditions.{ArePassed, IsRefused, has_fault, if_going, if_kind, if_said, is_miscounted, is_outside, kind_named, said_by}
use Rattle.enc_file.specs.Conditions as stated
use Rattle.enc_file.specs.Earlier.{encounter_by, has_ended, version_of}
use Rattle.enc_file.specs.Faults.{fault_of, miscounts}
use Rattle.enc_file.specs.Reading.{Explains, checked, next_record, reading_of, unless_faulty}
use Rattle.enc_file.specs.Records.{records_of}
use Rattle.enc_file.specs.Saying.{record_of}
use Rattle.enc_file.specs.Values.{field}
use Rattle.enc_file.specs.declared.record.Record.{Record}
use Rattle.enc_file.specs.declared.record.Record.TheVariants as said
use Rattle.enc_file.specs.declared.refusal.Code.{Code}
use Rattle.enc_file.specs.declared.refusal.Code.TheVariants as code
use Rattle.enc_file.specs.Tables.{Refuses}
use Rattle.enc_file.specs.declared.refusal.ReadError.{ReadError}
use Rattle.enc_file.specs.declared.refusal.ReadError.TheVariants.{Refused}
use Rattle.enc_file.specs.declared.refusal.Refusal.{Refusal}
use Rattle.fault_text.specs.Lines.{file_lines, written}
use Rattle.fault_text.proofs.Passing.{map-size}
use Rattle.fault_text.proofs.RecordLines.{records-are-lines}
use Rattle.fault_text.proofs.Refusals.{going, kind-by, next_of}

-- What is taken is what the record says by itself.
sound : (now other : Record) (o : Option Code) → unless_faulty now o ≡ Ok other → now ≡ other
sound now other None e = cc e
sound now other (Some why) e = absurd (cc e)

checked-said : (earlier : List Record) (r : Result Record Code) (now : Record) → checked earlier r ≡ Ok now → r ≡ Ok now
checked-said earlier (Err why) now e = absurd (cc e)
checked-said earlier (Ok other) now e = ap Ok (sound other now (fault_of earlier other) e)

later-said : (b : Bool) (earlier : List Record) (r : Result Record Code) (now : Record) → (if b then Err code.After else checked earlier r) ≡ Ok now → r ≡ Ok now
later-said true earlier r now e = absurd (cc e)
later-said false earlier r now e = checked-said earlier r now e

next-said : (earlier : List Record) (row : List (List ℕ)) (now : Record) → next_record earlier row ≡ Ok now → said_by earlier row ≡ Ok now
next-said [] row now e = e
next-said (last ∷ earlier) row now e = later-said (has_ended (last ∷ earlier)) (last ∷ earlier) (record_of (version_of (last ∷ earlier)) row) now e

same-ok : (a b : Record) (r : Result Record Code) → r ≡ Ok a → r ≡ Ok b → a ≡ b
same-ok a b r e f = cc (sym e ∙ f)

-- One record more.
pub passed-more : (earlier : List Record) (rows more : List (List (List ℕ))) (row : List (List ℕ)) (now : Record) (all : List Record)
    → ((more : List (List (List ℕ))) (all : List Record) → ArePassed [] (rows ++ more) all → ArePassed earlier more all) → next_record earlier row ≡ Ok now → ArePassed [] ((rows ++ row ∷ []) ++ more) all → ArePassed (now ∷ earlier) more all
passed-more earlier rows more row now all passed is h =
    let one : ArePassed earlier (row ∷ more) all = passed (row ∷ more) all (subst (λ rs. ArePassed [] rs all) (append_assoc rows (row ∷ []) more) h) in
    subst (λ (x : Record). ArePassed (x ∷ earlier) more all) (same-ok one.1.0 now (said_by earlier row) one.1.1 (next-said earlier row now is)) one.1.2

take-front : (rows more : List (List (List ℕ))) → take (length rows) (rows ++ more) ≡ rows
take-front [] more = refl
take-front (row ∷ rows) more = ap (λ rs. row ∷ rs) (take-front rows more)

-- All records before the refused one were read.
pub read-all : (text : List ℕ) (refusal : Refusal) (r : IsRefused (records_of text) refusal) (earlier : List Record) (rows more : List (List (List ℕ))) → length earlier ≡ length rows → length earlier + 1 ≡ refusal.at → records_of text ≡ rows ++ more
    → ((more : List (List (List ℕ))) (all : List Record) → ArePassed [] (rows ++ more) all → ArePassed earlier more all) → earlier ≡ r.earlier
read-all text refusal r earlier rows more count at whole passed =
    let size : length r.earlier ≡ length rows = omega (arith, r.at, at, count) in
    let front : take (length r.earlier) (records_of text) ≡ rows ++ [] = rw (size, whole) (take-front rows more ∙ sym (append-nil rows)) in
    passed [] r.earlier (subst (λ rs. ArePassed [] rs r.earlier) front r.passed)

-- The refused record is there.
fault-as : (rows : List (List (List ℕ))) (refusal : Refusal) (r : IsRefused rows refusal) → refusal.code ≡ code.Box → if_kind r.earlier (next_of rows refusal r) (is_outside r.earlier) ≡ true
unfolding has_fault
fault-as rows refusal r is = subst (λ (d : Code). has_fault r.earlier (next_of rows refusal r) d ≡ true) is r.fault.faulty

count-as : (rows : List (List (List ℕ))) (refusal : Refusal) (r : IsRefused rows refusal) → refusal.code ≡ code.Box → if_kind r.earlier (next_of rows refusal r) (is_miscounted r.earlier) ≡ false
unfolding has_fault
count-as rows refusal r is = r.fault.lowest code.Count (subst (λ (d : Code). code_number code.Count < code_number d) (sym is) (omega arith))

pub record IsEnd (rows : List (List (List ℕ))) (earlier : List Record) : Type 0 where
  pub some : length earlier < length rows
  pub counted : miscounts earlier said.End ≡ false
  pub outside : stays_inside (encounter_by earlier) ≡ false

outside-end : (earlier : List Record) (k : stated.RecordKind) (fields : List (List ℕ)) → is_outside earlier k fields ≡ true → (k ≡ stated.EndKind) × (stays_inside (encounter_by earlier) ≡ false)
outside-end earlier stated.EndKind fields h = (refl, flip (stays_inside (encounter_by earlier)) h) where
  flip : (b : Bool) → not b ≡ true → b ≡ false
  flip true h = absurd (false≢true h)
  flip false h = refl
outside-end earlier stated.RunKind fields h = absurd (false≢true h)
outside-end earlier stated.GainsKind fields h = absurd (false≢true h)
outside-end earlier stated.CraftKind fields h = absurd (false≢true h)
outside-end earlier stated.ClimbKind fields h = absurd (false≢true h)
outside-end earlier stated.LegKind fields h = absurd (false≢true h)
outside-end earlier stated.MissKind fields h = absurd (false≢true h)
outside-end earlier stated.PlanKind fields h = absurd (false≢true h)
outside-end earlier stated.FateKind fields h = absurd (false≢true h)
outside-end earlier stated.ProfileKind fields h = absurd (false≢true h)
outside-end earlier stated.NameKind fields h = absurd (false≢true h)
outside-end earlier stated.ClockKind fields h = absurd (false≢true h)
outside-end earlier stated.CallKind fields h = absurd (false≢true h)

counted-by : (earlier : List Record) (first ended : Bool) (fields : List (List ℕ)) (named : Option stated.RecordKind) (kind : stated.RecordKind) → first ≡ false → ended ≡ false → named ≡ Some kind
    → (not (first || ended) && if_said named (λ kind. is_miscounted earlier kind fields)) ≡ false → is_miscounted earlier kind fields ≡ false
counted-by earlier first ended fields named kind a b c h = rw (a, b, c) at h

counted-next : (earlier : List Record) (next : Option (List (List ℕ))) (fields : List (List ℕ)) (kind : stated.RecordKind) (first : Bool) → next ≡ Some fields → stated.is_first earlier ≡ false → has_ended earlier ≡ false
    → kind_named (version_of earlier) (field fields 0) ≡ Some kind → if_kind earlier next (is_miscounted earlier) ≡ false → is_miscounted earlier kind fields ≡ false
counted-next earlier next fields kind first is a b c h =
    let at : if_kind earlier (Some fields) (is_miscounted earlier) ≡ false = subst (λ o. if_kind earlier o (is_miscounted earlier) ≡ false) is h in
    counted-by earlier (stated.is_first earlier) (has_ended earlier) fields (kind_named (version_of earlier) (field fields 0)) kind a b c at

pub refused-as-end : (rows : List (List (List ℕ))) (refusal : Refusal) (r : IsRefused rows refusal) → refusal.code ≡ code.Box → IsEnd rows r.earlier
refused-as-end rows refusal r is =
    let g = going rows refusal r _ (fault-as rows refusal r is) in
    let it = kind-by (kind_named (version_of r.earlier) (field g.fields 0)) (λ kind. is_outside r.earlier kind g.fields) g.passes in
    let end = outside-end r.earlier it.kind g.fields it.passes in
    let counted = counted-next r.earlier (next_of rows refusal r) g.fields it.kind false g.is g.unfirst g.unended it.named (count-as rows refusal r is) in
    record {
      some = slice_get_within rows (length r.earlier) g.fields g.is;
      counted = subst (λ (k : stated.RecordKind). is_miscounted r.earlier k g.fields ≡ false) end.0 counted;
      outside = end.1;
    }

-- It has a line.
pub enough-lines : (text : List ℕ) (refusal : Refusal) (r : IsRefused (records_of text) refusal) → refusal.code ≡ code.Box → refusal.at ≤ length (written (file_lines text)) + 1
enough-lines text refusal r is = omega (arith, r.at, (refused-as-end (records_of text) refusal r is).some, ap length (records-are-lines text), map-size (written (file_lines text)))

-- Not all aircraft stay in the box.
pub not-inside : (text : List ℕ) (refusal : Refusal) (r : IsRefused (records_of text) refusal) → refusal.code ≡ code.Box → IsInside (encounter_by r.earlier) → ⊥
not-inside text refusal r is inside = false≢true (sym (refused-as-end (records_of text) refusal r is).outside ∙ (stays-inside (encounter_by r.earlier)).1 inside)

-- A text is refused at one record alone.
pub one-place : (text : List ℕ) (refusal other : Refusal) (count : ℕ) (P : Code → Type 0) (e : ReadError) → reading_of text ≡ Err refusal → Explains (reading_of text) e → Refuses count P e → e ≡ Refused other → refusal.at ≡ count + 1
one-place text refusal other count P e h k q is =
    let told : reading_of text ≡ Err other = rw is at k in
    let at : Refuses count P (Refused other) = rw is at q in
    let same : refusal ≡ other = cc (sym h ∙ told) in
    ap (λ (x : Refusal). x.at) (same ∙ at.2)
