-- A row of pieces, of which one more is cut off.
use Rattle.std.proofs.Common.{◌≡◌, ◌∙◌, ℕ, zero, suc, ◌+◌, ◌-◌, ◌≤◌, List, [], ◌∷◌, ◌++◌, length, take, drop, refl, sym, ap, arith, subst, append_assoc, length-append}
use Rattle.std.proofs.lemmas.List.{drop-drop, length-drop, map-append, take_rest}
use Rattle.std.proofs.lemmas.List.Elements.{All-append}
use Rattle.std.specs.Prelude.{All}
use Rattle.pieces.specs.Pieces.{AreCut, IsFirst, IsSize}
use Rattle.pieces.specs.Ranges.{IsRange, part, parts}
use Rattle.pieces.specs.declared.cutting.Range.{Range}

-- What was cut off stands before what is left.
abbrev pub IsCutOff : List ℕ → List Range → ℕ → Type 0
IsCutOff text ranges start = (list : List (List ℕ)) → AreCut list (drop start text) → AreCut (parts text ranges ++ list) text

pub cut-more : (text : List ℕ) (ranges : List Range) (range : Range) (size : ℕ) → range.end ≡ range.start + size → IsSize (drop range.start text) size → IsCutOff text ranges range.start → IsCutOff text (ranges ++ range ∷ []) range.end
cut-more text ranges range size end is cut = λ list behind.
    let rest = drop range.start text in
    let n : range.end - range.start ≡ size = omega (arith, end) in
    let piece : take size rest ≡ part text range = ap (λ k. take k rest) (sym n) in
    let left : drop size rest ≡ drop range.end text = drop-drop size range.start text ∙ ap (λ k. drop k text) (sym end) in
    let first : IsFirst rest (part text range) (drop range.end text) = subst (λ t. IsFirst rest (part text range) t) left (subst (λ t. IsFirst rest t (drop size rest)) piece is.first) in
    let row : parts text (ranges ++ range ∷ []) ++ list ≡ parts text ranges ++ part text range ∷ list =
    ap (λ t. t ++ list) (map-append (part text) ranges (range ∷ [])) ∙ append_assoc (parts text ranges) (part text range ∷ []) list in
    subst (λ t. AreCut t text) (sym row) (cut (part text range ∷ list) (drop range.end text, first, behind))

pub cut-all : (text : List ℕ) (ranges : List Range) (start : ℕ) → AreCut [] (drop start text) → IsCutOff text ranges start → AreCut (parts text ranges) text
cut-all text ranges start blank cut = subst (λ t. AreCut t text) (append-none (parts text ranges)) (cut [] blank) where
  append-none : (xs : List (List ℕ)) → xs ++ [] ≡ xs
  append-none [] = refl
  append-none (x ∷ xs) = ap (λ t. x ∷ t) (append-none xs)

one-range : (text : List ℕ) (range : Range) → IsRange text range → All (IsRange text) (range ∷ [])
one-range text range is zero d below = is
one-range text range is (suc k) d below = absurd (omega (arith, below))

pub ranges-more : (text : List ℕ) (ranges : List Range) (range : Range) → All (IsRange text) ranges → IsRange text range → All (IsRange text) (ranges ++ range ∷ [])
ranges-more text ranges range before is = All-append (IsRange text) ranges (range ∷ []) before (one-range text range is)

-- How many bytes and pieces there are behind the next piece.
pub record IsLater (text : List ℕ) (ranges : List Range) (start size : ℕ) (range : Range) : Type 0 where
  pub within : start + size ≤ length text
  pub few : length (ranges ++ range ∷ []) ≤ start + size
  pub inside : All (IsRange text) (ranges ++ range ∷ [])
  pub cut : IsCutOff text (ranges ++ range ∷ []) (start + size)

pub later : (text : List ℕ) (ranges : List Range) (start size : ℕ) → start ≤ length text → length ranges ≤ start → All (IsRange text) ranges → IsCutOff text ranges start → IsSize (take (length text - start) (drop start text)) size
    → IsLater text ranges start size (record { start = start; end = start + size })
later text ranges start size within few inside cut given =
    let is : IsSize (drop start text) size = subst (λ t. IsSize t size) (take_rest text start) given in
    let left = length-drop start text in
    let count = length-append ranges (record { start = start; end = start + size } ∷ []) in
    record {
      within = omega (arith, within, is.within, left);
      few = omega (arith, few, is.some, count);
      inside = ranges-more text ranges (record { start = start; end = start + size }) inside (record { ordered = omega arith; inside = omega (arith, within, is.within, left) });
      cut = cut-more text ranges (record { start = start; end = start + size }) size refl is cut;
    }
