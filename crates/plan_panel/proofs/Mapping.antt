-- What is made of the numbers of a range, one after the other.
use Rattle.std.proofs.Common.{◌≡◌, ℕ, zero, suc, ◌+◌, [], ◌∷◌, ◌++◌, ap, ◌∙◌, arith, add-one}
use Rattle.std.specs.Prelude.{map}
use Rattle.std.specs.List.{range_with_len}

by-suc : {X : Type 0} (f : ℕ → X) (first n : ℕ) → map f (range_with_len first (suc n)) ≡ map f (range_with_len first n) ++ f (first + n) ∷ []
by-suc f first zero = ap (λ (k : ℕ). f k ∷ []) (omega arith)
by-suc f first (suc n) =
    let next : (first + 1) + n ≡ first + suc n = omega arith in
    ap (λ xs. f first ∷ xs) (by-suc f (first + 1) n ∙ ap (λ (k : ℕ). map f (range_with_len (first + 1) n) ++ f k ∷ []) next)

pub map-more : {X : Type 0} (f : ℕ → X) (first n : ℕ) → map f (range_with_len first (n + 1)) ≡ map f (range_with_len first n) ++ f (first + n) ∷ []
map-more f first n = ap (λ (k : ℕ). map f (range_with_len first k)) (add-one n) ∙ by-suc f first n
