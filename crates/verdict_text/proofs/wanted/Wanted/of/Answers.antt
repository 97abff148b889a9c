use Rattle.std.proofs.Common.{◌≡◌, ◌∙◌, ◌≤◌, ℕ, List, length, take, ap, sym, arith, inl, inr}
use Rattle.std.specs.Prelude.{min}
use Rattle.std.proofs.lemmas.Bool.{cases_lt}
use Rattle.std.proofs.lemmas.List.{take_all}
use Rattle.verdict_text.proofs.wanted.Wanted.of.Goals as goal

-- A text of at most so many bytes is taken whole.
take-min : (n m : ℕ) (xs : List ℕ) → m ≡ min (length xs) n → take m xs ≡ take n xs
take-min n m xs is = elim (cases_lt n (length xs)) [
  | inl lt ↦ (let same : m ≡ n = omega (arith, is, lt) in ap (λ k. take k xs) same)
  | inr ge ↦ (let all : length xs ≤ m = omega (arith, is, ge) in take_all m xs all ∙ sym (take_all n xs ge))
]

pub returns : goal.returns
returns c = c.add.ensures ∙ take-min 240 c.min-most.result c.bytes-text.result.now c.min-most.ensures ∙ ap (take 240) c.bytes-text.ensures.bytes
