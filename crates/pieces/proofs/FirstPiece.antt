-- The first piece of a text, where its lines are cut off one after the other.
use Rattle.std.proofs.Common.{◌≡◌, ◌∙◌, ℕ, ◌+◌, ◌<◌, ◌≤◌, Bool, true, false, List, [], ◌∷◌, ◌++◌, length, take, drop, refl, sym, ap, arith, subst, append_assoc, length-append, inl, inr}
use Rattle.std.specs.Prelude.{◌==◌, ◌||◌, not}
use Rattle.std.specs.List.{AllByRecursion, list_any}
use Rattle.std.proofs.lemmas.Bool.{false≢true}
use Rattle.std.proofs.lemmas.List.{append-nil, append_cancel_right, drop_at, take_at}
use Rattle.csv.specs.Reading.{strip_bom}
use Rattle.fault_text.specs.Lines.{EndsLine, IsFirstLine, file_lines, is_written, lines_after}
use Rattle.fault_text.proofs.FirstLine.{is-blank, is-no-blank}
use Rattle.fault_text.proofs.FirstPart.{has-byte, longer-end}
use Rattle.pieces.specs.Pieces.{HasNoEnd, IsFirst, IsSize, has_record, is_end}
use Rattle.pieces.proofs.Joints.{IsJoint, joint-lines, joint-of, skipped, strip-joint}

-- Lines of which none is an end were cut off.
pub record IsRead (bytes rest : List ℕ) (some : Bool) : Type 0 where
  pub front : List ℕ
  pub bare : strip_bom bytes ≡ front ++ rest
  pub joint : IsJoint rest front
  pub none : HasNoEnd (lines_after false front)
  pub any : some ≡ list_any is_written (lines_after false front)

pub read-none : (bytes rest : List ℕ) → rest ≡ strip_bom bytes → IsRead bytes rest false
read-none bytes rest is = record { front = []; bare = sym is; joint = tt; none = tt; any = refl }

-- A line more was cut off.
record IsReadOn (bytes line behind : List ℕ) (some : Bool) : Type 0 where
  front : List ℕ
  part : List ℕ
  size : 0 < length part
  bare : strip_bom bytes ≡ (front ++ part) ++ behind
  ends : EndsLine behind (front ++ part)
  lines : lines_after false (front ++ part) ≡ lines_after false front ++ line ∷ []
  none : HasNoEnd (lines_after false front)
  any : some ≡ list_any is_written (lines_after false front)

shorter-joint : (front part behind : List ℕ) → 0 < length part → IsJoint (part ++ behind) front → lines_after false (front ++ part) ≡ lines_after false front ++ lines_after false part
shorter-joint front [] behind some joint = absurd (omega (arith, some))
shorter-joint [] (b ∷ bs) behind some joint = refl
shorter-joint (c ∷ cs) (b ∷ bs) behind some joint = joint-lines b bs (c ∷ cs) joint

read-on : (bytes rest line behind : List ℕ) (some : Bool) → IsRead bytes rest some → IsFirstLine rest line behind → IsReadOn bytes line behind some
read-on bytes rest line behind some r f =
    let size = has-byte f.part line [] f.one in
    let joint = subst (λ t. IsJoint t r.front) f.whole r.joint in
    record {
      front = r.front;
      part = f.part;
      size = size;
      bare = r.bare ∙ ap (λ t. r.front ++ t) f.whole ∙ sym (append_assoc r.front f.part behind);
      ends = longer-end behind r.front f.part size f.ends;
      lines = shorter-joint r.front f.part behind size joint ∙ ap (λ t. lines_after false r.front ++ t) f.one;
      none = r.none;
      any = r.any;
    }

each-append : {X : Type 0} (P : X → Type 0) (xs ys : List X) → AllByRecursion P xs → AllByRecursion P ys → AllByRecursion P (xs ++ ys)
each-append P [] ys h k = k
each-append P (x ∷ xs) ys h k = (h.0, each-append P xs ys h.1 k)

or-false : (b : Bool) → (b || false) ≡ b
or-false true = refl
or-false false = refl

or-group : (a b c : Bool) → (a || (b || c)) ≡ ((a || b) || c)
or-group true b c = refl
or-group false b c = refl

pub any-append : (f : List ℕ → Bool) (xs ys : List (List ℕ)) → list_any f (xs ++ ys) ≡ (list_any f xs || list_any f ys)
any-append f [] ys = refl
any-append f (x ∷ xs) ys = ap (λ b. f x || b) (any-append f xs ys) ∙ or-group (f x) (list_any f xs) (list_any f ys)

written-is : (line : List ℕ) (empty : Bool) → empty ≡ (length line == 0) → not empty ≡ is_written line
written-is line true is = sym (is-blank line (sym is))
written-is line false is = sym (is-no-blank line (sym is))

-- It is no end.
pub read-other : (bytes rest line behind : List ℕ) (some now : Bool) → IsRead bytes rest some → IsFirstLine rest line behind → is_end line ≡ false → now ≡ (some || is_written line) → IsRead bytes behind now
read-other bytes rest line behind some now r f no-end is =
    let on = read-on bytes rest line behind some r f in
    record {
      front = on.front ++ on.part;
      bare = on.bare;
      joint = joint-of behind (on.front ++ on.part) on.ends;
      none = subst HasNoEnd (sym on.lines) (each-append (λ l. is_end l ≡ false) (lines_after false on.front) (line ∷ []) on.none (no-end, tt));
      any = is ∙ ap (λ b. b || is_written line) on.any ∙ sym (ap (list_any is_written) on.lines ∙ any-append is_written (lines_after false on.front) (line ∷ []) ∙ ap (λ b. list_any is_written (lines_after false on.front) || b) (or-false (is_written line)));
    }

pub some-now : (some empty : Bool) (line : List ℕ) → empty ≡ (length line == 0) → (some || not empty) ≡ (some || is_written line)
some-now some empty line is = ap (λ b. some || b) (written-is line empty is)

-- It is the end of the first piece.
record IsPiece (bytes piece behind : List ℕ) : Type 0 where
  whole : bytes ≡ piece ++ behind
  some : 0 < length piece
  first : IsFirst bytes piece behind

size-of : (bytes piece behind : List ℕ) (size : ℕ) → IsPiece bytes piece behind → size + length behind ≡ length bytes → IsSize bytes size
size-of bytes piece behind size p is =
    let all : length bytes ≡ length piece + length behind = ap length p.whole ∙ length-append piece behind in
    let n : length piece ≡ size = omega (arith, all, is) in
    let front : take size bytes ≡ piece = ap (take size) p.whole ∙ take_at piece behind size n in
    let back : drop size bytes ≡ behind = ap (drop size) p.whole ∙ drop_at piece behind size n in
    record {
      some = omega (arith, p.some, n);
      within = omega (arith, all, n);
      first = subst (λ t. IsFirst bytes t (drop size bytes)) (sym front) (subst (λ t. IsFirst bytes piece t) (sym back) p.first);
    }

piece-at : (bytes line behind : List ℕ) (some : Bool) → IsReadOn bytes line behind some → is_end line ≡ true → (piece : List ℕ) × IsPiece bytes piece behind
piece-at bytes line behind some on is =
    let s = skipped bytes in
    let full = on.front ++ on.part in
    let piece = s.mark ++ full in
    let whole : bytes ≡ piece ++ behind = s.whole ∙ ap (λ t. s.mark ++ t) on.bare ∙ sym (append_assoc s.mark full behind) in
    let long : 0 < length full = (let l = length-append on.front on.part in omega (arith, l, on.size)) in
    let cut : EndsLine behind piece = longer-end behind s.mark full long on.ends in
    let bare : full ≡ strip_bom piece = append_cancel_right full (strip_bom piece) behind (sym on.bare ∙ ap strip_bom whole ∙ strip-joint behind piece cut) in (
      piece,
      record {
        whole = whole;
        some = (let l = length-append s.mark full in omega (arith, l, long));
        first = record {
          whole = whole;
          cut = cut;
          ended = inl (record { front = lines_after false on.front; none = on.none; last = line; ends = is; lines_are = ap (lines_after false) (sym bare) ∙ on.lines });
        };
      },
    )

pub ended-size : (bytes rest line behind : List ℕ) (some : Bool) (size : ℕ) → IsRead bytes rest some → IsFirstLine rest line behind → is_end line ≡ true → size + length behind ≡ length bytes → IsSize bytes size
ended-size bytes rest line behind some size r f is all =
    let p = piece-at bytes line behind some (read-on bytes rest line behind some r f) is in
    size-of bytes p.0 behind size p.1 all

-- No more bytes than the text has are behind its first lines.
pub behind-short : (bytes rest line behind : List ℕ) (some : Bool) → IsRead bytes rest some → IsFirstLine rest line behind → length behind ≤ length bytes
behind-short bytes rest line behind some r f =
    let s = skipped bytes in
    let a = ap length s.whole ∙ length-append s.mark (strip_bom bytes) in
    let b = ap length r.bare ∙ length-append r.front rest in
    let c = ap length f.whole ∙ length-append f.part behind in
    omega (arith, a, b, c)

-- All lines were cut off.
all-lines : (bytes rest : List ℕ) (some : Bool) → IsRead bytes rest some → rest ≡ [] → (r : IsRead bytes rest some) → file_lines bytes ≡ lines_after false r.front
all-lines bytes rest some h is r = ap (lines_after false) (r.bare ∙ ap (λ t. r.front ++ t) is ∙ append-nil r.front)

pub blank-all : (bytes rest : List ℕ) (some : Bool) → IsRead bytes rest some → rest ≡ [] → some ≡ false → has_record bytes ≡ false
blank-all bytes rest some r is none = ap (list_any is_written) (all-lines bytes rest some r is r) ∙ sym r.any ∙ none

some-byte : (bytes : List ℕ) → has_record bytes ≡ true → 0 < length bytes
unfolding strip_bom
some-byte [] is = absurd (false≢true is)
some-byte (c ∷ cs) is = omega arith

pub unended-size : (bytes rest : List ℕ) (some : Bool) → IsRead bytes rest some → rest ≡ [] → some ≡ true → IsSize bytes (length bytes)
unended-size bytes rest some r is any =
    let lines = all-lines bytes rest some r is r in
    let record_is : has_record bytes ≡ true = ap (list_any is_written) lines ∙ sym r.any ∙ any in
    let whole : bytes ≡ bytes ++ [] = sym (append-nil bytes) in
    size-of bytes bytes [] (length bytes) (record {
      whole = whole;
      some = some-byte bytes record_is;
      first = record { whole = whole; cut = tt; ended = inr (record { none = subst HasNoEnd (sym lines) r.none; some = record_is; last = refl }) };
    }) (omega arith)
