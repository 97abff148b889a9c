-- Lines of two texts, one after the other, where a line ends between them.
use Rattle.std.proofs.Common.{◌≡◌, ◌∙◌, ℕ, ◌<◌, Bool, true, false, cond, List, [], ◌∷◌, ◌++◌, length, refl, sym, ap, arith, eqb-true}
use Rattle.std.specs.Prelude.{◌==◌, ◌||◌, ◌&&◌, not, if◌then◌else◌}
use Rattle.std.specs.List.{onto_first}
use Rattle.std.proofs.lemmas.Bool.{false≢true}
use Rattle.std.proofs.lemmas.List.{append-nil}
use Rattle.csv.specs.Reading.{is_bom, strip_bom}
use Rattle.fault_text.specs.Lines.{EndsLine, ends_before, file_lines, lines_after}
use Rattle.fault_text.proofs.FirstPart.{longer-before}

onto-joint : (c : ℕ) (one other : List (List ℕ)) → 0 < length one → onto_first c (one ++ other) ≡ onto_first c one ++ other
onto-joint c [] other some = absurd (omega (arith, some))
onto-joint c (line ∷ one) other some = refl

onto-some : (c : ℕ) (lines : List (List ℕ)) → 0 < length (onto_first c lines)
onto-some c [] = omega arith
onto-some c (line ∷ lines) = omega arith

some-by : (return feed : Bool) (c : ℕ) (after rest : List (List ℕ)) → 0 < length (if return then [] ∷ after else if feed then [] ∷ rest else onto_first c rest)
some-by true feed c after rest = omega arith
some-by false true c after rest = omega arith
some-by false false c after rest = onto-some c rest

-- A text with a byte has a line.
pub some-line : (c : ℕ) (cs : List ℕ) → 0 < length (lines_after false (c ∷ cs))
some-line c cs = some-by (c == 13) (c == 10) c (lines_after true cs) (lines_after false cs)

-- A carriage return before a byte that is no line feed makes no difference.
no-feed : (b : ℕ) (bs : List ℕ) → (b == 10) ≡ false → lines_after true (b ∷ bs) ≡ lines_after false (b ∷ bs)
no-feed b bs is = rw is refl

-- The last byte before the joint.
last-byte : (return feed returned : Bool) (b c : ℕ) (bs : List ℕ) → (c == 13) ≡ return → (c == 10) ≡ feed → (feed || (return && not (b == 10))) ≡ true
    → lines_after returned (c ∷ b ∷ bs) ≡ lines_after returned (c ∷ []) ++ lines_after false (b ∷ bs)
last-byte true feed returned b c bs return-is feed-is ends =
    let is : c ≡ 13 = eqb-true c 13 return-is in
    let other : (b == 10) ≡ false = no-line-feed (b == 10) feed (feed-no c feed is feed-is) ends in
    rw return-is (ap (λ t. [] ∷ t) (no-feed b bs other))
  where
    feed-no : (c : ℕ) (feed : Bool) → c ≡ 13 → (c == 10) ≡ feed → feed ≡ false
    feed-no c feed is also = sym also ∙ rw is refl

    no-line-feed : (next feed : Bool) → feed ≡ false → (feed || (true && not next)) ≡ true → next ≡ false
    no-line-feed true feed none h = absurd (false≢true (rw none at h))
    no-line-feed false feed none h = refl
last-byte false true true b c bs return-is feed-is ends = rw (return-is, feed-is) refl
last-byte false true false b c bs return-is feed-is ends = rw (return-is, feed-is) refl
last-byte false false returned b c bs return-is feed-is ends = absurd (false≢true ends)

-- A byte that isn't the last before the joint.
earlier-byte : (return feed returned : Bool) (c d : ℕ) (ds rest : List ℕ) (lines : List (List ℕ)) → (c == 13) ≡ return → (c == 10) ≡ feed
    → ((before : Bool) → lines_after before (d ∷ ds ++ rest) ≡ lines_after before (d ∷ ds) ++ lines)
    → lines_after returned (c ∷ d ∷ ds ++ rest) ≡ lines_after returned (c ∷ d ∷ ds) ++ lines
earlier-byte true feed returned c d ds rest lines return-is feed-is more = rw return-is (ap (λ t. [] ∷ t) (more true))
earlier-byte false true true c d ds rest lines return-is feed-is more = rw (return-is, feed-is) (more false)
earlier-byte false true false c d ds rest lines return-is feed-is more = rw (return-is, feed-is) (ap (λ t. [] ∷ t) (more false))
earlier-byte false false returned c d ds rest lines return-is feed-is more =
    rw (return-is, feed-is) (ap (onto_first c) (more false) ∙ onto-joint c (lines_after false (d ∷ ds)) lines (some-line d ds))

lines-joint : (b : ℕ) (bs front : List ℕ) → ends_before b front ≡ true → (returned : Bool) → lines_after returned (front ++ b ∷ bs) ≡ lines_after returned front ++ lines_after false (b ∷ bs)
lines-joint b bs [] ends = absurd (false≢true ends)
lines-joint b bs (c ∷ []) ends = λ returned. last-byte (c == 13) (c == 10) returned b c bs refl refl ends
lines-joint b bs (c ∷ d ∷ ds) ends = λ returned. earlier-byte (c == 13) (c == 10) returned c d ds (b ∷ bs) (lines_after false (b ∷ bs)) refl refl (lines-joint b bs (d ∷ ds) ends)

-- Where a text is left from its start on, or a line ends behind its front.
abbrev pub IsJoint : List ℕ → List ℕ → Type 0
IsJoint behind [] = Unit {0}
IsJoint behind (c ∷ cs) = EndsLine behind (c ∷ cs)

pub joint-lines : (b : ℕ) (bs front : List ℕ) → IsJoint (b ∷ bs) front → lines_after false (front ++ b ∷ bs) ≡ lines_after false front ++ lines_after false (b ∷ bs)
joint-lines b bs [] joint = refl
joint-lines b bs (c ∷ cs) joint = lines-joint b bs (c ∷ cs) joint false

pub joint-of : (behind front : List ℕ) → EndsLine behind front → IsJoint behind front
joint-of behind [] ends = tt
joint-of behind (c ∷ cs) ends = ends

-- The mark at the start of a text stands in its front.
no-end-byte : (value : ℕ) (c next : ℕ) → (10 == value) ≡ false → (13 == value) ≡ false → ((c == 10) || ((c == 13) && not (next == 10))) ≡ true → (c == value) ≡ false
no-end-byte value c next ten thirteen ends = by (c == 10) (c == 13) refl refl ends where
  by : (feed return : Bool) → (c == 10) ≡ feed → (c == 13) ≡ return → (feed || (return && not (next == 10))) ≡ true → (c == value) ≡ false
  by true return feed-is return-is h = rw (eqb-true c 10 feed-is) ten
  by false true feed-is return-is h = rw (eqb-true c 13 return-is) thirteen
  by false false feed-is return-is h = absurd (false≢true h)

and-false : (x : Bool) → (x && false) ≡ false
and-false true = refl
and-false false = refl

strip-by : (b : Bool) (rest whole more : List ℕ) → cond b (rest ++ more) (whole ++ more) ≡ cond b rest whole ++ more
strip-by true rest whole more = refl
strip-by false rest whole more = refl

pub strip-joint : (behind piece : List ℕ) → EndsLine behind piece → strip_bom (piece ++ behind) ≡ strip_bom piece ++ behind
unfolding strip_bom
strip-joint [] piece ends = ap strip_bom (append-nil piece) ∙ sym (append-nil (strip_bom piece))
strip-joint (n ∷ bs) [] ends = absurd (false≢true ends)
strip-joint (n ∷ []) (a ∷ []) ends = refl
strip-joint (n ∷ m ∷ ms) (a ∷ []) ends = rw (no-end-byte 239 a n refl refl ends) refl
strip-joint (n ∷ bs) (a ∷ b ∷ []) ends = rw (no-end-byte 187 b n refl refl ends, and-false (a == 239)) refl
strip-joint (n ∷ bs) (a ∷ b ∷ c ∷ rest) ends = strip-by (is_bom a b c) rest (a ∷ b ∷ c ∷ rest) (n ∷ bs)

-- What is skipped of a text.
pub record IsSkipped (text : List ℕ) : Type 0 where
  pub mark : List ℕ
  pub whole : text ≡ mark ++ strip_bom text

skipped-by : (b : Bool) (x y z : ℕ) (rest : List ℕ) → is_bom x y z ≡ b → (mark : List ℕ) × (x ∷ y ∷ z ∷ rest ≡ mark ++ cond b rest (x ∷ y ∷ z ∷ rest))
skipped-by true x y z rest is = (x ∷ y ∷ z ∷ [], refl)
skipped-by false x y z rest is = ([], refl)

pub skipped : (text : List ℕ) → IsSkipped text
unfolding strip_bom
skipped [] = record { mark = []; whole = refl }
skipped (a ∷ []) = record { mark = []; whole = refl }
skipped (a ∷ b ∷ []) = record { mark = []; whole = refl }
skipped (a ∷ b ∷ c ∷ rest) = let s = skipped-by (is_bom a b c) a b c rest refl in record { mark = s.0; whole = s.1 }

-- The front of a text without its mark.
joint-bare : (behind mark bare : List ℕ) → EndsLine behind (mark ++ bare) → IsJoint behind bare
joint-bare behind mark [] ends = tt
joint-bare [] mark (c ∷ cs) ends = tt
joint-bare (n ∷ bs) mark (c ∷ cs) ends = sym (longer-before n mark c cs) ∙ ends

pub bare-joint : (behind piece : List ℕ) → EndsLine behind piece → IsJoint behind (strip_bom piece)
bare-joint behind piece ends = let s = skipped piece in joint-bare behind s.mark (strip_bom piece) (subst-ends s.whole) where
  subst-ends : {t : List ℕ} → piece ≡ t → EndsLine behind t
  subst-ends is = rw (sym is) ends

-- The lines of a text are those of its first piece, and then those of what stands behind it.
pub file-joint : (n : ℕ) (bs piece : List ℕ) → EndsLine (n ∷ bs) piece → file_lines (piece ++ n ∷ bs) ≡ file_lines piece ++ lines_after false (n ∷ bs)
file-joint n bs piece ends = ap (lines_after false) (strip-joint (n ∷ bs) piece ends) ∙ joint-lines n bs (strip_bom piece) (bare-joint (n ∷ bs) piece ends)
