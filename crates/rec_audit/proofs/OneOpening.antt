-- What stands before the entries is judged in one way.
use Rattle.std.proofs.Common.{◌≡◌, ℕ, ◌≤◌, List, [], ◌∷◌, ◌++◌, get_or, drop, refl, sym, ap, ◌∙◌, subst, append_assoc, arith}
use Rattle.std.specs.Prelude.{Err}
use Rattle.std.specs.Fmt.{decimal}
use Rattle.std.proofs.lemmas.Fmt.{decimal_injective}
use Rattle.std.proofs.lemmas.List.{append_cancel_right}
use Rattle.acas_base.specs.Encounter.{IsEncounter, Parts}
use Rattle.acas_lines.specs.Lines.{joined}
use Rattle.enc_file.specs.Canonical.{canonical_lines, canonical_text}
use Rattle.enc_file.specs.Reading.{Says, reading_of}
use Rattle.enc_file.specs.declared.refusal.Refusal.{Refusal}
use Rattle.flight.specs.Inside.{IsInside}
use Rattle.rec_audit.specs.Opening.{HasNoEnd, IsCut, IsWrongAfterHead, IsWrongOpening, IsWrongPart, Opens, end_line, no_count, no_end, no_head, not_canonical, refused, wrong_after_head, wrong_part}
use Rattle.rec_audit.specs.declared.verdict.Reason.{Reason}
use Rattle.rec_audit.specs.declared.verdict.Reason.TheVariants.{Encounter}
use Rattle.rec_audit.specs.declared.opening.TheConstants.{MOST_TOLD}
use Rattle.rec_text.proofs.Ends.{canonical-ends, first-end}
use Rattle.rec_text.specs.Recording.{journal_line}

-- Every encounter inside the box is said by its canonical text.
abbrev pub IsSaid : Type 0
IsSaid = (e : Parts) → IsEncounter e → IsInside e → Says (canonical_text e) e

-- ---- a text says one encounter

pub says-once : (text : List ℕ) (e f : Parts) → Says text e → Says text f → e ≡ f
says-once text e f h k = let both = sym h ∙ k in cc

pub says-refused : (text : List ℕ) (e : Parts) (refusal : Refusal) → Says text e → reading_of text ≡ Err refusal → ⊥
says-refused text e refusal h k = let both = sym h ∙ k in cc

refused-once : (text : List ℕ) (a b : Refusal) → reading_of text ≡ Err a → reading_of text ≡ Err b → a ≡ b
refused-once text a b h k = let both = sym h ∙ k in cc

-- ---- the first end

-- There is one.
has-end : (front rest : List (List ℕ)) → HasNoEnd (front ++ end_line ∷ rest) → ⊥
has-end [] rest h = h.0 refl
has-end (l ∷ front) rest h = has-end front rest h.1

cut-at : (lines part rest : List (List ℕ)) → (c : IsCut lines part rest) → lines ≡ c.front ++ end_line ∷ rest
cut-at lines part rest c = c.all ∙ ap (λ p. p ++ rest) c.part_is ∙ append_assoc c.front (end_line ∷ []) rest

pub cut-ends : (lines part rest : List (List ℕ)) → IsCut lines part rest → HasNoEnd lines → ⊥
cut-ends lines part rest c h = has-end c.front rest (subst HasNoEnd (cut-at lines part rest c) h)

pub record SameCut (p q r s : List (List ℕ)) : Type 0 where
  pub part : p ≡ q
  pub rest : r ≡ s

pub cut-once : (lines p q r s : List (List ℕ)) → IsCut lines p r → IsCut lines q s → SameCut p q r s
cut-once lines p q r s a b =
    let both = first-end a.front b.front r s a.none b.none (sym (cut-at lines p r a) ∙ cut-at lines q s b) in
    record { part = a.part_is ∙ ap (λ f. f ++ end_line ∷ []) both.0 ∙ sym b.part_is; rest = both.1 }

pub canonical-cut : (e : Parts) (lines rest : List (List ℕ)) → lines ≡ canonical_lines e ++ rest → IsCut lines (canonical_lines e) rest
canonical-cut e lines rest is = let ends = canonical-ends e in record { front = ends.front; none = ends.others; part_is = ends.is; all = is }

-- ---- the number of entries

pub counts-once : (m n : ℕ) → m ≤ MOST_TOLD → n ≤ MOST_TOLD → journal_line m ≡ journal_line n → m ≡ n
counts-once m n h k e = decimal_injective m n (omega arith) (omega arith) (append_cancel_right (decimal m) (decimal n) (10 ∷ []) (ap (drop 8) e))

-- ---- what is wrong, once

part-once : (p t : List (List ℕ)) (l m : ℕ) (r s : Reason) → IsWrongPart p t l r → IsWrongPart p t m s → (l ≡ m) × (r ≡ s)
part-once p t l m r s (refused a h) (refused b k) = (refl, ap (λ (x : Refusal). Encounter x.code) (refused-once (joined p) a b h k))
part-once p t l m r s (refused a h) (not_canonical f k ne) = absurd (says-refused (joined p) f a k h)
part-once p t l m r s (refused a h) (no_count f k same none) = absurd (says-refused (joined p) f a k h)
part-once p t l m r s (not_canonical e h ne) (refused b k) = absurd (says-refused (joined p) e b h k)
part-once p t l m r s (not_canonical e h ne) (not_canonical f k ne2) = (refl, refl)
part-once p t l m r s (not_canonical e h ne) (no_count f k same none) = absurd (ne (same ∙ ap canonical_lines (says-once (joined p) f e k h)))
part-once p t l m r s (no_count e h same none) (refused b k) = absurd (says-refused (joined p) e b h k)
part-once p t l m r s (no_count e h same none) (not_canonical f k ne) = absurd (ne (same ∙ ap canonical_lines (says-once (joined p) e f h k)))
part-once p t l m r s (no_count e h same none) (no_count f k same2 none2) = (refl, refl)

head-once : (lines : List (List ℕ)) (l m : ℕ) (r s : Reason) → IsWrongAfterHead lines l r → IsWrongAfterHead lines m s → (l ≡ m) × (r ≡ s)
head-once lines l m r s (no_end h) (no_end k) = (refl, refl)
head-once lines l m r s (no_end h) (wrong_part {part = q} {rest = t} c w) = absurd (cut-ends lines q t c h)
head-once lines l m r s (wrong_part {part = p} {rest = t} c w) (no_end k) = absurd (cut-ends lines p t c k)
head-once lines l m r s (wrong_part {part = p} {rest = t} c w) (wrong_part {part = q} {rest = u} d v) =
    let one = cut-once lines p q t u c d in
    part-once q u l m r s (subst (λ x. IsWrongPart q x l r) one.rest (subst (λ x. IsWrongPart x t l r) one.part w)) v

pub opening-once : (lines : List (List ℕ)) (l m : ℕ) (r s : Reason) → IsWrongOpening lines l r → IsWrongOpening lines m s → (l ≡ m) × (r ≡ s)
opening-once lines l m r s (no_head h) (no_head k) = (refl, refl)
opening-once lines l m r s (no_head h) (wrong_after_head {rest = t} is w) = absurd (h t is)
opening-once lines l m r s (wrong_after_head {rest = t} is w) (no_head k) = absurd (k t is)
opening-once lines l m r s (wrong_after_head {rest = t} is w) (wrong_after_head {rest = u} is2 v) =
    head-once u l m r s (subst (λ x. IsWrongAfterHead x l r) (ap (drop 1) (sym is ∙ is2)) w) v

-- ---- what opens isn't wrong

part-right : (e : Parts) (N l : ℕ) (r : Reason) (rest : List (List ℕ)) → Says (canonical_text e) e → N ≤ MOST_TOLD → IsWrongPart (canonical_lines e) (journal_line N ∷ rest) l r → ⊥
part-right e N l r rest says few (refused a h) = says-refused (canonical_text e) e a says h
part-right e N l r rest says few (not_canonical f k ne) = ne (ap canonical_lines (says-once (canonical_text e) e f says k))
part-right e N l r rest says few (no_count f k same none) = none N rest few refl

head-right : (e : Parts) (N : ℕ) (lines rest : List (List ℕ)) (l : ℕ) (r : Reason) → Says (canonical_text e) e → N ≤ MOST_TOLD → lines ≡ canonical_lines e ++ journal_line N ∷ rest → IsWrongAfterHead lines l r → ⊥
head-right e N lines rest l r says few is (no_end h) = cut-ends lines (canonical_lines e) (journal_line N ∷ rest) (canonical-cut e lines (journal_line N ∷ rest) is) h
head-right e N lines rest l r says few is (wrong_part {part = p} {rest = t} c w) =
    let one = cut-once lines p (canonical_lines e) t (journal_line N ∷ rest) c (canonical-cut e lines (journal_line N ∷ rest) is) in
    part-right e N l r rest says few (subst (λ x. IsWrongPart (canonical_lines e) x l r) one.rest (subst (λ x. IsWrongPart x t l r) one.part w))

pub opening-right : (e : Parts) (N l : ℕ) (r : Reason) (lines rest : List (List ℕ)) → IsSaid → Opens e N lines rest → IsWrongOpening lines l r → ⊥
opening-right e N l r lines rest said o (no_head h) = h (canonical_lines e ++ journal_line N ∷ rest) o.begins
opening-right e N l r lines rest said o (wrong_after_head {rest = t} is w) =
    head-right e N t rest l r (said e o.encounter o.inside) o.told (ap (drop 1) (sym is ∙ o.begins)) w

-- Lines open in one way.
pub record SameOpening (e f : Parts) (M N : ℕ) (r s : List (List ℕ)) : Type 0 where
  pub encounter : e ≡ f
  pub count : M ≡ N
  pub rest : r ≡ s

pub opens-once : (e f : Parts) (M N : ℕ) (lines r s : List (List ℕ)) → IsSaid → Opens e M lines r → Opens f N lines s → SameOpening e f M N r s
opens-once e f M N lines r s said a b =
    let one = cut-once (drop 1 lines) (canonical_lines e) (canonical_lines f) (journal_line M ∷ r) (journal_line N ∷ s)
    (canonical-cut e (drop 1 lines) (journal_line M ∷ r) (ap (drop 1) a.begins)) (canonical-cut f (drop 1 lines) (journal_line N ∷ s) (ap (drop 1) b.begins)) in
    record {
      encounter = says-once (canonical_text f) e f (subst (λ p. Says (joined p) e) one.part (said e a.encounter a.inside)) (said f b.encounter b.inside);
      count = counts-once M N a.told b.told (ap (λ t. get_or t 0 []) one.rest);
      rest = ap (drop 1) one.rest;
    }
