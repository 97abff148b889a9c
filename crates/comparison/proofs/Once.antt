-- Bytes are cut in one way.
use Rattle.std.proofs.Common.{◌≡◌, ℕ, List, [], ◌∷◌, ◌++◌, get_or, drop, refl, sym, ap, ap₂, ◌∙◌, inl, inr}
use Rattle.std.proofs.lemmas.List.{append-nil, append_assoc}
use Rattle.acas_lines.proofs.Splitting.{joined-split}
use Rattle.acas_lines.specs.Lines.{joined}
use Rattle.acas_lines.specs.Split.{lines_of}
use Rattle.rec_text.specs.Recording.{close_line}
use Rattle.comparison.specs.Splitting.{EndsWithClose, HasNoClose, IsSplit}

-- Where the first close stands.
first-close : (xs ys r s : List (List ℕ)) → HasNoClose xs → HasNoClose ys → xs ++ close_line ∷ r ≡ ys ++ close_line ∷ s → (xs ≡ ys) × (r ≡ s)
first-close [] [] r s h k e = (refl, ap (drop 1) e)
first-close [] (y ∷ ys) r s h k e = absurd (k.0 (sym (ap (λ t. get_or t 0 []) e)))
first-close (x ∷ xs) [] r s h k e = absurd (h.0 (ap (λ t. get_or t 0 []) e))
first-close (x ∷ xs) (y ∷ ys) r s h k e =
    let rest = first-close xs ys r s h.1 k.1 (ap (drop 1) e) in
    (ap₂ (λ (z : List ℕ) (zs : List (List ℕ)). z ∷ zs) (ap (λ t. get_or t 0 []) e) rest.0, rest.1)

-- A close stands in one of two lists that are the same, and in the other none does.
no-close : (xs r ys : List (List ℕ)) → HasNoClose ys → xs ++ close_line ∷ r ≡ ys → ⊥
no-close xs r [] k e = empty xs e
  where
    empty : (zs : List (List ℕ)) → zs ++ close_line ∷ r ≡ [] → ⊥
    empty [] e = absurd cc
    empty (z ∷ zs) e = absurd cc
no-close [] r (y ∷ ys) k e = k.0 (sym (ap (λ t. get_or t 0 []) e))
no-close (x ∷ xs) r (y ∷ ys) k e = no-close xs r ys k.1 (ap (drop 1) e)

same-text : (a b : List ℕ) → lines_of a ≡ lines_of b → a ≡ b
same-text a b e = sym (joined-split a) ∙ ap joined e ∙ joined-split b

-- All lines of bytes, from the lines of the first part.
all-lines : (bytes one other : List ℕ) (s : IsSplit bytes one other) (f : EndsWithClose (lines_of one)) → lines_of bytes ≡ f.front ++ close_line ∷ lines_of other
all-lines bytes one other s f = s.lines_are ∙ ap (λ t. t ++ lines_of other) f.lines_are ∙ append_assoc f.front (close_line ∷ []) (lines_of other)

whole : (bytes one other : List ℕ) → IsSplit bytes one other → other ≡ [] → bytes ≡ one
whole bytes one other s none = s.bytes_are ∙ ap (λ t. one ++ t) none ∙ append-nil one

clash : {X : Type 0} (bytes one other two another : List ℕ) (s : IsSplit bytes one other) (t : IsSplit bytes two another) → EndsWithClose (lines_of one) → HasNoClose (lines_of two) → another ≡ [] → X
clash bytes one other two another s t f none end =
    absurd (no-close f.front (lines_of other) (lines_of two) none (sym (all-lines bytes one other s f) ∙ ap lines_of (whole bytes two another t end)))

pub split-once : (bytes one other two another : List ℕ) → IsSplit bytes one other → IsSplit bytes two another → (one ≡ two) × (other ≡ another)
split-once bytes one other two another s t = elim s.first [
  | inl f ↦ elim t.first [
    | inl g ↦ (
        let both = first-close f.front g.front (lines_of other) (lines_of another) f.none g.none (sym (all-lines bytes one other s f) ∙ all-lines bytes two another t g) in
        (same-text one two (f.lines_are ∙ ap (λ xs. xs ++ close_line ∷ []) both.0 ∙ sym g.lines_are), same-text other another both.1))
    | inr g ↦ clash bytes one other two another s t f g.0 g.1
  ]
  | inr f ↦ elim t.first [
    | inl g ↦ clash bytes two another one other t s g f.0 f.1
    | inr g ↦ (sym (whole bytes one other s f.1) ∙ whole bytes two another t g.1, f.1 ∙ sym g.1)
  ]
]
