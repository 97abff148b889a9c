-- Lines that are put together, and texts that are split.
use Rattle.std.proofs.Common.{◌≡◌, ◌≢◌, ℕ, ◌≤◌, Bool, true, false, cond, eqb, List, [], ◌∷◌, ◌++◌, length, refl, sym, ap, ◌∙◌, append_assoc, arith, eqb-true, ◌⊎◌, inl, inr}
use Rattle.std.specs.List.{AllByRecursion, onto_first}
use Rattle.acas_lines.specs.Split.{lines_of, IsLine}
use Rattle.acas_lines.specs.Lines.{joined}

cond-cases : {X : Type 0} (b : Bool) (x y : X) → ((b ≡ true) × (cond b x y ≡ x)) ⊎ (cond b x y ≡ y)
cond-cases true x y = inl (refl, refl)
cond-cases false x y = inr refl

-- What isn't true is false.
not-true : (b : Bool) → (b ≡ true → ⊥) → b ≡ false
not-true true h = absurd (h refl)
not-true false h = refl

-- A byte other than a line feed stands in front of the first line.
pub other-byte : (c : ℕ) (cs : List ℕ) → c ≢ 10 → lines_of (c ∷ cs) ≡ onto_first c (lines_of cs)
other-byte c cs ne = ap (λ t. cond t ((10 ∷ []) ∷ lines_of cs) (onto_first c (lines_of cs))) (not-true (eqb c 10) (λ t. ne (eqb-true c 10 t)))

-- The first line of a text, and the others.
pub split-one : (body rest : List ℕ) → AllByRecursion (λ c. c ≢ 10) body → lines_of (body ++ 10 ∷ rest) ≡ (body ++ 10 ∷ []) ∷ lines_of rest
split-one [] rest h = refl
split-one (c ∷ body) rest h = other-byte c (body ++ 10 ∷ rest) h.0 ∙ ap (onto_first c) (split-one body rest h.1)

-- A text without a line feed is one line.
pub split-last : (c : ℕ) (cs : List ℕ) → AllByRecursion (λ c. c ≢ 10) (c ∷ cs) → lines_of (c ∷ cs) ≡ (c ∷ cs) ∷ []
split-last c [] h = other-byte c [] h.0
split-last c (d ∷ cs) h = other-byte c (d ∷ cs) h.0 ∙ ap (onto_first c) (split-last d cs h.1)

pub split-joined : (lines : List (List ℕ)) → AllByRecursion IsLine lines → lines_of (joined lines) ≡ lines
split-joined [] each = refl
split-joined (l ∷ ls) each =
    let one : IsLine l = each.0 in
    ap lines_of (ap (λ t. t ++ joined ls) one.whole ∙ append_assoc one.body (10 ∷ []) (joined ls)) ∙ split-one one.body (joined ls) one.inside ∙ ap (λ t. t ∷ lines_of (joined ls)) (sym one.whole)
    ∙ ap (λ t. l ∷ t) (split-joined ls each.1)

joined-onto : (c : ℕ) (lines : List (List ℕ)) → joined (onto_first c lines) ≡ c ∷ joined lines
joined-onto c [] = refl
joined-onto c (l ∷ ls) = refl

pub joined-split : (text : List ℕ) → joined (lines_of text) ≡ text
joined-split [] = refl
joined-split (c ∷ cs) = elim (cond-cases (eqb c 10) ((10 ∷ []) ∷ lines_of cs) (onto_first c (lines_of cs))) [
  | inl e ↦ ap joined (e.1) ∙ ap (λ d. d ∷ joined (lines_of cs)) (sym (eqb-true c 10 e.0)) ∙ ap (λ t. c ∷ t) (joined-split cs)
  | inr e ↦ ap joined e ∙ joined-onto c (lines_of cs) ∙ ap (λ t. c ∷ t) (joined-split cs)
]

onto-few : (c : ℕ) (cs : List ℕ) (lines : List (List ℕ)) → length lines ≤ length cs → length (onto_first c lines) ≤ length (c ∷ cs)
onto-few c cs [] h = omega arith
onto-few c cs (l ∷ ls) h = omega arith

cond-few : (b : Bool) (c : ℕ) (cs : List ℕ) (lines : List (List ℕ)) → length lines ≤ length cs → length (cond b ((10 ∷ []) ∷ lines) (onto_first c lines)) ≤ length (c ∷ cs)
cond-few true c cs lines h = omega arith
cond-few false c cs lines h = onto-few c cs lines h

-- Each line has a byte.
pub few-lines : (bytes : List ℕ) → length (lines_of bytes) ≤ length bytes
few-lines [] = omega arith
few-lines (c ∷ cs) = cond-few (eqb c 10) c cs (lines_of cs) (few-lines cs)

-- A text with a byte has a line.
some-onto : (c : ℕ) (lines : List (List ℕ)) → onto_first c lines ≢ []
some-onto c [] = λ e. absurd cc
some-onto c (l ∷ ls) = λ e. absurd cc

some-cond : (b : Bool) (c : ℕ) (lines : List (List ℕ)) → cond b ((10 ∷ []) ∷ lines) (onto_first c lines) ≢ []
some-cond true c lines = λ e. absurd cc
some-cond false c lines = some-onto c lines

pub some-line : (bytes : List ℕ) → lines_of bytes ≡ [] → bytes ≡ []
some-line [] e = refl
some-line (c ∷ cs) e = absurd (some-cond (eqb c 10) c (lines_of cs) e)
