-- Two texts that are compared line by line.
use Rattle.std.proofs.Common.{◌≡◌, ◌≢◌, ℕ, ◌+◌, ◌-◌, ◌≤◌, Bool, true, false, eqb, eqb-true, eq-eqb, List, [], ◌∷◌, ◌++◌, length, take, drop, refl, sym, ap, ◌∙◌, arith, subst, length-append, Some, None}
use Rattle.std.specs.Prelude.{slice_get}
use Rattle.std.specs.List.{AllByRecursion, count_by}
use Rattle.std.proofs.lemmas.List.{append-nil}
use Rattle.std.proofs.Math.Seq.{take-append_seam}
use Rattle.acas_lines.specs.Differing.{DifferAt}
use Rattle.acas_lines.specs.Split.{IsLine, lines_of}
use Rattle.acas_lines.specs.Lines.{joined}
use Rattle.acas_lines.proofs.Splitting.{joined-split, some-line, split-joined}
use Rattle.comparison.proofs.Fronts.{count-lines, each-front, is_feed, lines-behind}
use Rattle.comparison.specs.Texts.{Compares, StoppedIn}

-- ---- one line

pub found-one : (before now line : List ℕ) → before ≡ line ++ now → before ≡ joined (line ∷ []) ++ now
found-one before now line e = e ∙ ap (λ t. t ++ now) (sym (append-nil line))

pub stopped-one : (text line : List ℕ) → ((rest : List ℕ) → text ≢ line ++ rest) → StoppedIn text text (line ∷ [])
stopped-one text line ne = record { front = []; next = line; later = []; lines_are = refl; text_is = refl; differs = ne }

-- ---- the end of a comparison

-- How many bytes were read.
abbrev pub read_of : List ℕ → List ℕ → List ℕ
read_of text rest = take (length text - length rest) text

read-is : (text front rest : List ℕ) → text ≡ front ++ rest → read_of text rest ≡ front
read-is text front rest e =
    let all : length text ≡ length front + length rest = ap length e ∙ length-append front rest in
    let size : length text - length rest ≡ length front = omega arith in
    ap (λ (n : ℕ). take n text) size ∙ ap (take (length front)) e ∙ take-append_seam front rest

pub rest-within : (text rest : List ℕ) (differs : Bool) (lines : List (List ℕ)) → Compares text rest false differs lines → length rest ≤ length text
rest-within text rest true lines s = (let all : length text ≡ length (joined s.front) + length rest = ap length s.text_is ∙ length-append (joined s.front) rest in omega arith)
rest-within text rest false lines e = (let all : length text ≡ length (joined lines) + length rest = ap length e ∙ length-append (joined lines) rest in omega arith)

get-seam : (front xs : List (List ℕ)) → slice_get (front ++ xs) (length front) ≡ slice_get xs 0
get-seam [] xs = refl
get-seam (l ∷ front) xs = get-seam front xs

-- Behind the same lines.
behind : (count : ℕ) (one other front xs ys : List (List ℕ)) → count ≡ length front → one ≡ front ++ xs → other ≡ front ++ ys → slice_get xs 0 ≢ slice_get ys 0 → DifferAt count one other
behind count one other front xs ys n e f ne = record {
  front =
      ap (λ (k : ℕ). take k one) n ∙ ap (take (length front)) e ∙ take-append_seam front xs
      ∙ sym (ap (λ (k : ℕ). take k other) n ∙ ap (take (length front)) f ∙ take-append_seam front ys);
  here = λ same. ne (sym (at one xs e) ∙ same ∙ at other ys f);
}
  where
    at : (lines zs : List (List ℕ)) → lines ≡ front ++ zs → slice_get lines count ≡ slice_get zs 0
    at lines zs is = ap (slice_get lines) n ∙ ap (λ (ls : List (List ℕ)). slice_get ls (length front)) is ∙ get-seam front zs

-- The first line of a text.
first-in : (lines : List (List ℕ)) (line : List ℕ) → slice_get lines 0 ≡ Some line → joined lines ≡ line ++ joined (drop 1 lines)
first-in [] line e = absurd cc
first-in (l ∷ ls) line e = (let same : l ≡ line = cc in ap (λ t. t ++ joined ls) same)

-- How many lines stand in a text before what is left of it.
feeds : (text rest : List ℕ) (front : List (List ℕ)) → AllByRecursion IsLine front → text ≡ joined front ++ rest → count_by is_feed (read_of text rest) ≡ length front
feeds text rest front whole e = ap (count_by is_feed) (read-is text (joined front) rest e) ∙ count-lines front whole

-- The lines of a text whose front is made of whole lines.
lines-are : (text rest : List ℕ) (lines front : List (List ℕ)) → AllByRecursion IsLine lines → AllByRecursion IsLine front → text ≡ joined lines → text ≡ joined front ++ rest → lines ≡ front ++ lines_of rest
lines-are text rest lines front whole some is e = sym (split-joined lines whole) ∙ ap lines_of (sym is ∙ e) ∙ lines-behind front rest some

pub differ-stopped : (text rest : List ℕ) (one other : List (List ℕ)) → AllByRecursion IsLine one → AllByRecursion IsLine other → text ≡ joined one → StoppedIn text rest other → DifferAt (count_by is_feed (read_of text rest)) one other
differ-stopped text rest one other whole also is s =
    let some = each-front IsLine s.front (s.next ∷ s.later) (subst (AllByRecursion IsLine) s.lines_are also) in
    behind (count_by is_feed (read_of text rest)) one other s.front (lines_of rest) (s.next ∷ s.later) (feeds text rest s.front some s.text_is) (lines-are text rest one s.front whole some is s.text_is) s.lines_are
    (λ same. s.differs (joined (drop 1 (lines_of rest))) (sym (joined-split rest) ∙ first-in (lines_of rest) s.next same))

pub differ-longer : (text rest : List ℕ) (one other : List (List ℕ)) → AllByRecursion IsLine one → AllByRecursion IsLine other → text ≡ joined one → text ≡ joined other ++ rest → rest ≢ [] → DifferAt (count_by is_feed (read_of text rest)) one other
differ-longer text rest one other whole also is e more =
    behind (count_by is_feed (read_of text rest)) one other other (lines_of rest) [] (feeds text rest other also e) (lines-are text rest one other whole also is e) (sym (append-nil other))
    (λ same. more (some-line rest (none (lines_of rest) same)))
  where
    none : (lines : List (List ℕ)) → slice_get lines 0 ≡ None → lines ≡ []
    none [] e = refl
    none (l ∷ ls) e = absurd cc

pub same-lines : (text rest : List ℕ) (one other : List (List ℕ)) → AllByRecursion IsLine one → AllByRecursion IsLine other → text ≡ joined one → text ≡ joined other ++ rest → rest ≡ [] → one ≡ other
same-lines text rest one other whole also is e none = lines-are text rest one other whole also is e ∙ ap (λ t. other ++ lines_of t) none ∙ append-nil other

pub differ-any : (text rest : List ℕ) (differs : Bool) (one other : List (List ℕ)) → AllByRecursion IsLine one → AllByRecursion IsLine other → text ≡ joined one → Compares text rest false differs other → (differs ≡ false → rest ≢ []) →
    DifferAt (count_by is_feed (read_of text rest)) one other
differ-any text rest true one other whole also is s more = differ-stopped text rest one other whole also is s
differ-any text rest false one other whole also is e more = differ-longer text rest one other whole also is e (more refl)

-- What is left is empty where it has no byte.
pub not-empty : (rest : List ℕ) (r : Bool) → r ≡ eqb (length rest) 0 → r ≡ false → rest ≢ []
not-empty rest r h f e = let one : eqb (length rest) 0 ≡ true = eq-eqb (length rest) 0 (ap length e) in absurd (let t = sym f ∙ h ∙ one in cc)

no-bytes : (rest : List ℕ) → length rest ≡ 0 → rest ≡ []
no-bytes [] e = refl
no-bytes (x ∷ rest) e = absurd (omega arith)

pub same-where : (text rest : List ℕ) (differs r : Bool) (one other : List (List ℕ)) → AllByRecursion IsLine one → AllByRecursion IsLine other → text ≡ joined one → Compares text rest false differs other → differs ≡ false →
    r ≡ eqb (length rest) 0 → r ≡ true → one ≡ other
same-where text rest true r one other whole also is e d h t = absurd cc
same-where text rest false r one other whole also is e d h t = same-lines text rest one other whole also is e (no-bytes rest (eqb-true (length rest) 0 (sym h ∙ t)))
