-- Lines that are made for the numbers of a range, one after the other.
use Rattle.std.proofs.Common.{◌≡◌, ℕ, zero, suc, ◌+◌, ◌*◌, ◌≤◌, List, ◌++◌, length, length-append, sym, ap, ◌∙◌, arith, add-one, append_assoc}
use Rattle.std.specs.List.{flat_map, range_with_len}
use Rattle.std.proofs.lemmas.List.{append-nil}

-- Those of the next number.
pub flat-more : {X : Type 0} (f : ℕ → List X) (first n : ℕ) → flat_map f (range_with_len first (n + 1)) ≡ flat_map f (range_with_len first n) ++ f (first + n)
flat-more f first n = ap (λ (k : ℕ). flat_map f (range_with_len first k)) (add-one n) ∙ by_suc f first n
  where
    by_suc : {X : Type 0} (f : ℕ → List X) (first n : ℕ) → flat_map f (range_with_len first (suc n)) ≡ flat_map f (range_with_len first n) ++ f (first + n)
    by_suc f first zero = append-nil (f first) ∙ ap f (omega arith)
    by_suc f first (suc n) =
        let next : (first + 1) + n ≡ first + suc n = omega arith in
        ap (λ xs. f first ++ xs) (by_suc f (first + 1) n ∙ ap (λ k. flat_map f (range_with_len (first + 1) n) ++ f k) next) ∙ sym (append_assoc (f first) (flat_map f (range_with_len (first + 1) n)) (f (first + suc n)))

-- As many as numbers times the most for each.
pub length-flat : {X : Type 0} (f : ℕ → List X) (most first n : ℕ) → ((k : ℕ) → length (f k) ≤ most) → length (flat_map f (range_with_len first n)) ≤ n * most
length-flat f most first zero h = omega arith
length-flat f most first (suc n) h =
    let one = h first in
    let rest = length-flat f most (first + 1) n h in
    omega (arith, length-append (f first) (flat_map f (range_with_len (first + 1) n)))
