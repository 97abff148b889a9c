-- The first bytes of a text.
use Rattle.std.proofs.Common.{◌≡◌, ◌∙◌, ℕ, List, length, take, min, sym, ap, arith, inl, inr}
use Rattle.std.proofs.lemmas.Bool.{cases_lt}
use Rattle.std.proofs.lemmas.List.{take_all}

-- No more are taken than there are.
pub take-within : (n : ℕ) (xs : List ℕ) → take (min (length xs) n) xs ≡ take n xs
take-within n xs = elim (cases_lt n (length xs)) [
  | inl less ↦ ap (λ k. take k xs) (omega arith)
  | inr more ↦ ap (λ k. take k xs) (omega arith) ∙ take_all (length xs) xs (omega arith) ∙ sym (take_all n xs (omega (arith, more)))
]
