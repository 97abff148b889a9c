-- Bytes that are cut behind their first line `close`.
use Rattle.std.proofs.Common.{◌≡◌, ◌≢◌, ℕ, ◌+◌, ◌-◌, ◌<◌, ◌≤◌, List, [], ◌∷◌, ◌++◌, length, take, drop, refl, sym, ap, ◌∙◌, arith, subst, append_assoc, length-append, inl, inr, ◌⊎◌}
use Rattle.std.specs.List.{AllByRecursion}
use Rattle.std.proofs.lemmas.List.{append-nil, length-drop, length-take-le, take_all}
use Rattle.std.proofs.Math.Seq.{drop-append_seam, take-append_seam}
use Rattle.acas_lines.specs.Split.{IsFirstLine, IsLine, lines_of}
use Rattle.acas_lines.specs.Lines.{joined}
use Rattle.acas_lines.proofs.Splitting.{few-lines, split-joined}
use Rattle.rec_text.specs.Recording.{close_line}
use Rattle.comparison.proofs.Fronts.{each-append, joined-append}
use Rattle.comparison.specs.Splitting.{HasNoClose, IsSplit}

-- The bytes up to a place are lines of which none is the close.
pub record IsRead (bytes : List ℕ) (at lines : ℕ) : Type 0 where
  pub front : List (List ℕ)
  pub rest : List ℕ
  pub none : HasNoClose front
  pub bytes_are : bytes ≡ joined front ++ rest
  pub at_is : at ≡ length (joined front)
  pub lines_are : lines_of bytes ≡ front ++ lines_of rest
  pub whole : AllByRecursion IsLine front ⊎ (rest ≡ [])
  pub count : lines ≡ length front

pub read-none : (bytes : List ℕ) → IsRead bytes 0 0
read-none bytes = record { front = []; rest = bytes; none = tt; bytes_are = refl; at_is = refl; lines_are = refl; whole = inl tt; count = refl }

-- What comes next.
pub rest-is : (bytes : List ℕ) (at lines : ℕ) (r : IsRead bytes at lines) → drop at bytes ≡ r.rest
rest-is bytes at lines r = ap (λ (n : ℕ). drop n bytes) r.at_is ∙ ap (drop (length (joined r.front))) r.bytes_are ∙ drop-append_seam (joined r.front) r.rest

pub front-is : (bytes : List ℕ) (at lines : ℕ) (r : IsRead bytes at lines) → take at bytes ≡ joined r.front
front-is bytes at lines r = ap (λ (n : ℕ). take n bytes) r.at_is ∙ ap (take (length (joined r.front))) r.bytes_are ∙ take-append_seam (joined r.front) r.rest

-- Another line is read.
pub record IsReadOn (bytes : List ℕ) (at lines : ℕ) (line : List ℕ) : Type 0 where
  pub front : List (List ℕ)
  pub rest : List ℕ
  pub none : HasNoClose front
  pub bytes_are : bytes ≡ joined (front ++ line ∷ []) ++ rest
  pub at_is : at ≡ length (joined (front ++ line ∷ []))
  pub lines_are : lines_of bytes ≡ (front ++ line ∷ []) ++ lines_of rest
  pub before : AllByRecursion IsLine front
  pub whole : IsLine line ⊎ (rest ≡ [])
  pub count : lines ≡ length (front ++ line ∷ [])

nil-length : {X : Type 0} (xs : List X) → length xs ≡ 0 → xs ≡ []
nil-length [] e = refl
nil-length (x ∷ xs) e = absurd (omega arith)

read-on : (bytes : List ℕ) (at lines : ℕ) (line : List ℕ) → at < length bytes → IsRead bytes at lines → IsFirstLine (drop at bytes) line → IsReadOn bytes (at + length line) (lines + 1) line
read-on bytes at lines line more r f =
    let rest : r.rest ≡ line ++ f.rest = sym (rest-is bytes at lines r) ∙ f.text_is in
    let one : joined (r.front ++ line ∷ []) ≡ joined r.front ++ line = joined-append r.front (line ∷ []) ∙ ap (λ t. joined r.front ++ t) (append-nil line) in
    let whole : AllByRecursion IsLine r.front = front-whole in
    record {
      front = r.front;
      rest = f.rest;
      none = r.none;
      bytes_are = r.bytes_are ∙ ap (λ t. joined r.front ++ t) rest ∙ sym (append_assoc (joined r.front) line f.rest) ∙ ap (λ t. t ++ f.rest) (sym one);
      at_is = (let l : length (joined (r.front ++ line ∷ [])) ≡ length (joined r.front) + length line = ap length one ∙ length-append (joined r.front) line in let a : at ≡ length (joined r.front) = r.at_is in omega arith);
      lines_are = r.lines_are ∙ ap (λ t. r.front ++ t) (ap lines_of (sym (rest-is bytes at lines r)) ∙ f.lines_are) ∙ sym (append_assoc r.front (line ∷ []) (lines_of f.rest));
      before = whole;
      whole = f.whole;
      count = (let l : length (r.front ++ line ∷ []) ≡ length r.front + 1 = length-append r.front (line ∷ []) in let n : lines ≡ length r.front = r.count in omega arith);
    }
  where
    front-whole : AllByRecursion IsLine r.front
    front-whole = elim r.whole [
      | inl whole ↦ whole
      | inr end ↦ absurd (
          let all : length bytes ≡ length (joined r.front) + length r.rest = ap length r.bytes_are ∙ length-append (joined r.front) r.rest in
          let none : length r.rest ≡ 0 = ap length end in
          let a : at ≡ length (joined r.front) = r.at_is in
          omega arith)
    ]

read-on-by : (bytes : List ℕ) (at lines len : ℕ) → at < length bytes → len ≤ length (drop at bytes) → IsRead bytes at lines → IsFirstLine (drop at bytes) (take len (drop at bytes)) → IsReadOn bytes (at + len) (lines + 1) (take len (drop at bytes))
read-on-by bytes at lines len more within r f =
    let size : length (take len (drop at bytes)) ≡ len = length-take-le len (drop at bytes) within in
    subst (λ (n : ℕ). IsReadOn bytes (at + n) (lines + 1) (take len (drop at bytes))) size (read-on bytes at lines (take len (drop at bytes)) more r f)

-- It isn't the close.
pub read-other : (bytes : List ℕ) (at lines : ℕ) (line : List ℕ) → IsReadOn bytes at lines line → line ≢ close_line → IsRead bytes at lines
read-other bytes at lines line r ne = record {
  front = r.front ++ line ∷ [];
  rest = r.rest;
  none = each-append (λ l. l ≢ close_line) r.front (line ∷ []) r.none (ne, tt);
  bytes_are = r.bytes_are;
  at_is = r.at_is;
  lines_are = r.lines_are;
  whole = both;
  count = r.count;
}
  where
    both : AllByRecursion IsLine (r.front ++ line ∷ []) ⊎ (r.rest ≡ [])
    both = elim r.whole [
      | inl whole ↦ inl (each-append IsLine r.front (line ∷ []) r.before (whole, tt))
      | inr end ↦ inr end
    ]

-- It is the close, of which the bytes are cut.
pub record IsCutAt (bytes one other : List ℕ) (lines : ℕ) : Type 0 where
  pub split : IsSplit bytes one other
  pub count : lines ≡ length (lines_of one)

close-whole : IsLine close_line
close-whole = record {
  body = 99 ∷ 108 ∷ 111 ∷ 115 ∷ 101 ∷ [];
  inside = (λ e. absurd (omega arith), (λ e. absurd (omega arith), (λ e. absurd (omega arith), (λ e. absurd (omega arith), (λ e. absurd (omega arith), tt)))));
  whole = refl;
}

pub cut-here : (bytes : List ℕ) (at lines : ℕ) (line : List ℕ) → IsReadOn bytes at lines line → line ≡ close_line → IsCutAt bytes (take at bytes) (drop at bytes) lines
cut-here bytes at lines line r is =
    let all : List (List ℕ) = r.front ++ line ∷ [] in
    let one : take at bytes ≡ joined all = ap (λ (n : ℕ). take n bytes) r.at_is ∙ ap (take (length (joined all))) r.bytes_are ∙ take-append_seam (joined all) r.rest in
    let other : drop at bytes ≡ r.rest = ap (λ (n : ℕ). drop n bytes) r.at_is ∙ ap (drop (length (joined all))) r.bytes_are ∙ drop-append_seam (joined all) r.rest in
    let line_whole : IsLine line = subst IsLine (sym is) close-whole in
    let lines_are : lines_of (take at bytes) ≡ all = ap lines_of one ∙ split-joined all (each-append IsLine r.front (line ∷ []) r.before (line_whole, tt)) in
    record {
      split = record {
        bytes_are = r.bytes_are ∙ ap (λ t. t ++ r.rest) (sym one) ∙ ap (λ t. take at bytes ++ t) (sym other);
        lines_are = r.lines_are ∙ ap (λ t. t ++ lines_of r.rest) (sym lines_are) ∙ ap (λ t. lines_of (take at bytes) ++ lines_of t) (sym other);
        first = inl (record { front = r.front; none = r.none; lines_are = lines_are ∙ ap (λ l. r.front ++ l ∷ []) is });
      };
      count = r.count ∙ ap length (sym lines_are);
    }

-- There is none.
pub cut-nowhere : (bytes : List ℕ) (at lines : ℕ) → IsRead bytes at lines → length bytes ≤ at → IsCutAt bytes bytes (drop at bytes) lines
cut-nowhere bytes at lines r end =
    let all : length bytes ≡ length (joined r.front) + length r.rest = ap length r.bytes_are ∙ length-append (joined r.front) r.rest in
    let a : at ≡ length (joined r.front) = r.at_is in
    let none : r.rest ≡ [] = nil-length r.rest (omega arith) in
    let other : drop at bytes ≡ [] = rest-is bytes at lines r ∙ none in
    let lines_are : lines_of bytes ≡ r.front = r.lines_are ∙ ap (λ t. r.front ++ lines_of t) none ∙ append-nil r.front in
    record {
      split = record {
        bytes_are = sym (append-nil bytes) ∙ ap (λ t. bytes ++ t) (sym other);
        lines_are = sym (append-nil (lines_of bytes)) ∙ ap (λ t. lines_of bytes ++ lines_of t) (sym other);
        first = inr (subst HasNoClose (sym lines_are) r.none, other);
      };
      count = r.count ∙ ap length (sym lines_are);
    }

-- ---- as slices

-- The bytes from a place on.
abbrev pub tail : List ℕ → ℕ → List ℕ
tail bytes at = take (length bytes - at) (drop at bytes)

tail-is : (bytes : List ℕ) (at : ℕ) → tail bytes at ≡ drop at bytes
tail-is bytes at = take_all (length bytes - at) (drop at bytes) (omega (arith, length-drop at bytes))

pub read-next : (bytes : List ℕ) (at lines len : ℕ) → at < length bytes → len ≤ length (tail bytes at) → IsRead bytes at lines → IsFirstLine (tail bytes at) (take len (tail bytes at)) →
    IsReadOn bytes (at + len) (lines + 1) (take len (tail bytes at))
read-next bytes at lines len more within r f =
    subst (λ (t : List ℕ). len ≤ length t → IsFirstLine t (take len t) → IsReadOn bytes (at + len) (lines + 1) (take len t)) (sym (tail-is bytes at)) (λ few first. read-on-by bytes at lines len more few r first) within f

pub cut-at : (bytes : List ℕ) (at lines : ℕ) (line : List ℕ) → IsReadOn bytes at lines line → line ≡ close_line → IsCutAt bytes (take at bytes) (tail bytes at) lines
cut-at bytes at lines line r is = subst (λ (t : List ℕ). IsCutAt bytes (take at bytes) t lines) (sym (tail-is bytes at)) (cut-here bytes at lines line r is)

pub cut-no : (bytes : List ℕ) (at lines : ℕ) → IsRead bytes at lines → length bytes ≤ at → IsCutAt bytes bytes (tail bytes at) lines
cut-no bytes at lines r end = subst (λ (t : List ℕ). IsCutAt bytes bytes t lines) (sym (tail-is bytes at)) (cut-nowhere bytes at lines r end)

-- No more lines were read than bytes.
pub read-few : (bytes : List ℕ) (at lines : ℕ) → IsRead bytes at lines → lines ≤ length bytes
read-few bytes at lines r =
    let all : length (lines_of bytes) ≡ length r.front + length (lines_of r.rest) = ap length r.lines_are ∙ length-append r.front (lines_of r.rest) in
    let n : lines ≡ length r.front = r.count in
    omega (arith, few-lines bytes)
