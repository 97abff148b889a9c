-- The cells of a line, one after the other.
use Rattle.std.proofs.Common.{◌≡◌, ℕ, zero, suc, ◌-◌, ◌<◌, ◌≤◌, List, [], ◌∷◌, ◌++◌, length, get_or, set, map, take, drop, refl, sym, ap, ◌∙◌, arith, eqb, true}
use Rattle.std.specs.Prelude.{replicate}
use Rattle.std.proofs.lemmas.Bool.Decides.{nat_tests}
use Rattle.std.proofs.lemmas.List.{append-nil, take-append-drop}
use Rattle.acas_base.specs.declared.advisory.Cell.{Cell}
use Rattle.acas_base.specs.declared.advisory.Cell.TheVariants.{Clear}
use Rattle.advisory_report.specs.Cells.{cell_text}

-- The text at a place, and what follows.
pub at-rest : {X : Type 0} (xs : List X) (n : ℕ) (x : X) (rest : List X) → x ∷ rest ≡ drop n xs → (take (suc n) xs ≡ take n xs ++ x ∷ []) × (rest ≡ drop (suc n) xs)
at-rest [] zero x rest e = absurd cc
at-rest [] (suc n) x rest e = absurd cc
at-rest (y ∷ ys) zero x rest e = (cc, cc)
at-rest (y ∷ ys) (suc n) x rest e = let h = at-rest ys n x rest e in (ap (λ t. y ∷ t) h.0, h.1)

pub field-at : (count place : ℕ) (cs : List Cell) (f : List ℕ) (rest : List (List ℕ)) → place < count → count ≤ length cs → f ∷ rest ≡ drop place (map cell_text (take count cs)) → f ≡ cell_text (get_or cs place Clear)
field-at zero place cs f rest h few e = absurd (omega arith)
field-at (suc n) place [] f rest h few e = absurd (omega arith)
field-at (suc n) zero (c ∷ cs) f rest h few e = ap (λ t. get_or t 0 []) e
field-at (suc n) (suc p) (c ∷ cs) f rest h few e = field-at n p cs f rest (omega arith) (omega arith) e

pub not-empty : (count place : ℕ) (cs : List Cell) → place < count → count ≤ length cs → [] ≡ drop place (map cell_text (take count cs)) → ⊥
not-empty zero place cs h few e = omega arith
not-empty (suc n) place [] h few e = omega arith
not-empty (suc n) zero (c ∷ cs) h few e = cc
not-empty (suc n) (suc p) (c ∷ cs) h few e = not-empty n p cs (omega arith) (omega arith) e

pub all-dropped : (count : ℕ) (cs : List Cell) → drop count (map cell_text (take count cs)) ≡ []
all-dropped zero cs = refl
all-dropped (suc n) [] = refl
all-dropped (suc n) (c ∷ cs) = all-dropped n cs

pub past-more : (cs : List Cell) (p : ℕ) → p < 16 → drop p cs ≡ replicate (16 - p) Clear → drop (suc p) cs ≡ replicate (16 - suc p) Clear
past-more cs p h e =
    let less : 16 - p ≡ suc (16 - suc p) = omega arith in
    sym ((at-rest cs p Clear (replicate (16 - suc p) Clear) (sym (e ∙ ap (λ k. replicate k Clear) less))).1)

pub past-set : (cs : List Cell) (p : ℕ) (d : Cell) → drop (suc p) (set cs p d) ≡ drop (suc p) cs
past-set [] p d = refl
past-set (c ∷ cs) zero d = refl
past-set (c ∷ cs) (suc p) d = past-set cs p d

pub own-set : (cs : List Cell) (p own : ℕ) (d : Cell) → get_or cs own Clear ≡ Clear → (p ≡ own → d ≡ Clear) → get_or (set cs p d) own Clear ≡ Clear
own-set [] p own d h k = h
own-set (c ∷ cs) zero zero d h k = k refl
own-set (c ∷ cs) zero (suc o) d h k = h
own-set (c ∷ cs) (suc p) zero d h k = h
own-set (c ∷ cs) (suc p) (suc o) d h k = own-set cs p o d h (λ e. k (ap suc e))

pub rest-none : (n : ℕ) (xs : List (List ℕ)) → [] ≡ drop n xs → take n xs ≡ xs
rest-none n xs e = sym (append-nil (take n xs)) ∙ ap (λ t. take n xs ++ t) e ∙ take-append-drop n xs

pub eqb-yes : (m n : ℕ) → m ≡ n → eqb m n ≡ true
eqb-yes m n e = grind (arith, nat_tests)
