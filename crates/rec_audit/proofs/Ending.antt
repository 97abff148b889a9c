-- What follows the number of entries.
use Rattle.std.proofs.Common.{◌≡◌, ℕ, ◌+◌, ◌<◌, ◌≤◌, List, [], ◌∷◌, ◌++◌, length, take, drop, slice_get, Some, None, refl, sym, ap, ◌∙◌, subst, inl, inr, arith}
use Rattle.std.proofs.Math.Seq.{take-append_seam, take-length}
use Rattle.std.proofs.lemmas.Option.{slice_get_past}
use Rattle.acas_base.specs.Encounter.{Parts}
use Rattle.acas_base.specs.declared.entry.Entry.{Entry}
use Rattle.air_journal.specs.Airs.{air_of}
use Rattle.air_rules.specs.Rules.{IsComplete}
use Rattle.rec_audit.specs.Cursors.{Cursor, StoppedIn, Took}
use Rattle.acas_lines.specs.Differing.{DifferAt}
use Rattle.rec_audit.specs.Engine.{DiffersFrom, IsWrongIn, Replayed, StoppedAt}
use Rattle.rec_audit.specs.Judging.{IsWrongAfter, IsWrongBeginning, incomplete, other_end, too_few, too_many, wrong_entry, wrong_line}
use Rattle.rec_audit.specs.Opening.{first_entry}
use Rattle.rec_audit.specs.Replays.{Replays}
use Rattle.rec_audit.specs.declared.endings.Extent.{Extent}
use Rattle.rec_audit.specs.declared.endings.Extent.TheVariants.{Whole, Beginning}
use Rattle.rec_audit.specs.declared.fault.Fault.{Fault}
use Rattle.rec_audit.specs.declared.verdict.Reason.TheVariants.{Spelling, Incomplete, Report}
use Rattle.rec_text.specs.Recording.{closing_lines}

-- ---- two lists with one front

pub get-after : {X : Type 0} (xs ys : List X) → slice_get (xs ++ ys) (length xs) ≡ slice_get ys 0
get-after [] ys = refl
get-after (x ∷ xs) ys = get-after xs ys

get-first : {X : Type 0} (xs : List X) (x : X) → slice_get xs 0 ≡ Some x → xs ≡ x ∷ drop 1 xs
get-first [] x e = absurd cc
get-first (y ∷ ys) x e = let same : y ≡ x = cc in ap (λ z. z ∷ ys) same

-- The comparison stopped in these lines.
stopped-differs : (before now : Cursor) (lines : List (List ℕ)) → (s : StoppedIn before now lines) → DifferAt (length s.front) before.left lines
stopped-differs before now lines s = record {
  front = ap (take (length s.front)) s.took.lines_are ∙ take-append_seam s.front now.left ∙ sym (ap (take (length s.front)) s.lines_are ∙ take-append_seam s.front (s.next ∷ s.later));
  here = λ e. s.differs (drop 1 now.left) (get-first now.left s.next (sym (ap (λ t. slice_get t (length s.front)) s.took.lines_are ∙ get-after s.front now.left) ∙ e ∙ ap (λ t. slice_get t (length s.front)) s.lines_are ∙ get-after s.front (s.next ∷ s.later)));
}

-- They were all there, and another line.
more-differs : (before now : Cursor) (lines : List (List ℕ)) (line : List ℕ) (rest : List (List ℕ)) → Took before now lines → now.left ≡ line ∷ rest → DifferAt (length lines) before.left lines
more-differs before now lines line rest t more =
    let there : slice_get before.left (length lines) ≡ Some line = ap (λ x. slice_get x (length lines)) t.lines_are ∙ get-after lines now.left ∙ ap (λ x. slice_get x 0) more in
    let none : slice_get lines (length lines) ≡ None = slice_get_past lines (length lines) (omega arith) in
    record {
      front = ap (take (length lines)) t.lines_are ∙ take-append_seam lines now.left ∙ sym (take-length lines);
      here = λ e. absurd (let some : None ≡ Some line = sym none ∙ sym e ∙ there in cc);
    }

pub stopped-number : (before now : Cursor) (number : ℕ) (lines : List (List ℕ)) → StoppedIn before now lines → number ≡ now.taken + 1 → DiffersFrom before number lines
stopped-number before now number lines s is = record { same = length s.front; differ = stopped-differs before now lines s; line_is = omega (arith, is, s.took.taken_is) }

pub more-number : (before now after : Cursor) (number : ℕ) (lines : List (List ℕ)) (line : List ℕ) → Took before now lines → Took now after (line ∷ []) → number ≡ now.taken + 1 → DiffersFrom before number lines
more-number before now after number lines line t u is = record { same = length lines; differ = more-differs before now lines line after.left t u.lines_are; line_is = omega (arith, is, t.taken_is) }

-- ---- why a recording is wrong

pub wrong-entry : (e : Parts) (count : ℕ) (before : Cursor) (fault : Fault) → before.taken + 1 ≡ first_entry e → StoppedAt (air_of e) before count fault → IsWrongAfter e count before.left fault.line fault.reason
wrong-entry e count before fault first s = subst (λ n. IsWrongAfter e count before.left n fault.reason) (sym (s.line_is ∙ ap (λ n. n + s.entries) first)) (wrong_entry s.stops s.within)

-- Fewer than were told.
pub none-left : (e : Parts) (count : ℕ) (before after : Cursor) (J : List Entry) → Replayed (air_of e) before after count J → length J < count → after.left ≡ []
none-left e count before after J r few = elim r.ends [ inl all ↦ absurd (omega arith) | inr none ↦ none ]

pub too-few : (e : Parts) (count line : ℕ) (before after : Cursor) (J : List Entry) → before.taken + 1 ≡ first_entry e → Replayed (air_of e) before after count J → length J < count → line ≡ after.taken + 1 → IsWrongAfter e count before.left line Spelling
too-few e count line before after J first r few is =
    let here : first_entry e + length J ≡ line = omega (arith, first, is, r.taken_is) in
    subst (λ n. IsWrongAfter e count before.left n Spelling) here (too_few (subst (λ t. Replays (air_of e) before.left J t) (none-left e count before after J r few) r.replays) few)

pub not-complete : (e : Parts) (count line : ℕ) (before after : Cursor) (J : List Entry) → before.taken + 1 ≡ first_entry e → Replayed (air_of e) before after count J → count ≤ length J → line ≡ after.taken + 1 → (IsComplete (air_of e) J → ⊥) →
    IsWrongAfter e count before.left line Incomplete
not-complete e count line before after J first r all is open_end =
    let here : first_entry e + count ≡ line = omega (arith, first, is, r.taken_is, r.within) in
    subst (λ n. IsWrongAfter e count before.left n Incomplete) here (incomplete r.replays (omega (arith, r.within)) open_end)

pub other-end : (e : Parts) (count line : ℕ) (before after : Cursor) (J : List Entry) → before.taken + 1 ≡ first_entry e → Replayed (air_of e) before after count J → count ≤ length J → IsComplete (air_of e) J →
    DiffersFrom after line (closing_lines e J) → IsWrongAfter e count before.left line Report
other-end e count line before after J first r all whole d =
    let here : first_entry e + (count + d.same) ≡ line = omega (arith, first, d.line_is, r.taken_is, r.within) in
    subst (λ n. IsWrongAfter e count before.left n Report) here (other_end r.replays (omega (arith, r.within)) whole d.differ)

-- ---- why a beginning is wrong

pub wrong-line : (e : Parts) (count : ℕ) (before : Cursor) (fault : Fault) → before.taken + 1 ≡ first_entry e → StoppedAt (air_of e) before count fault → IsWrongBeginning e count before.left fault.line fault.reason
wrong-line e count before fault first s = subst (λ n. IsWrongBeginning e count before.left n fault.reason) (sym (s.line_is ∙ ap (λ n. n + s.entries) first)) (wrong_line s.stops s.within)

-- More than were told.
pub too-many : (e : Parts) (count line : ℕ) (before after later : Cursor) (J : List Entry) (next : List ℕ) → before.taken + 1 ≡ first_entry e → Replayed (air_of e) before after count J → Took after later (next ∷ []) → line ≡ after.taken + 1 →
    IsWrongBeginning e count before.left line Report
too-many e count line before after later J next first r t is =
    let all : length J ≡ count = elim r.ends [ inl all ↦ all | inr none ↦ absurd (let more = sym none ∙ t.lines_are in cc) ] in
    let here : first_entry e + count ≡ line = omega (arith, first, is, r.taken_is) in
    subst (λ n. IsWrongBeginning e count before.left n Report) here (too_many (subst (λ l. Replays (air_of e) before.left J l) t.lines_are r.replays) all)

-- ---- both

pub wrong-in : (extent : Extent) (e : Parts) (count : ℕ) (before : Cursor) (fault : Fault) → before.taken + 1 ≡ first_entry e → StoppedAt (air_of e) before count fault → IsWrongIn extent e count before.left fault.line fault.reason
wrong-in Whole e count before fault first s = wrong-entry e count before fault first s
wrong-in Beginning e count before fault first s = wrong-line e count before fault first s
