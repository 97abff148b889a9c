-- Lists in which each element is below the next.
use Rattle.std.proofs.Common.{◌≡◌, ℕ, zero, suc, ◌<◌, Bool, true, false, List, [], ◌∷◌, length, get_or, refl, sym, ◌∙◌, arith, add-one, inl, inr}
use Rattle.std.specs.Prelude.{IsTrue, ◌↔◌}
use Rattle.std.specs.List.{IsAllAdjacentAnswer}
use Rattle.std.proofs.lemmas.Bool.{cases_lt, false≢true}
use Rattle.acas_base.specs.Order.{IsRising}

-- What a test of all neighbours answers.
pub rising-tested : {X : Type 0} (below : X → X → Bool) (xs : List X) (r : Bool) → IsAllAdjacentAnswer (λ x y b. b ≡ below x y) xs r → IsTrue r ↔ IsRising below xs
rising-tested below xs true each = (λ _ k d h. sym (each k d h), λ _. refl)
rising-tested below [] false one = absurd (omega (arith, one.1))
rising-tested below (x ∷ xs) false one = (λ t. absurd (false≢true t), λ rising. absurd (false≢true (one.2 x ∙ rising one.0 x one.1)))

-- In a transitive order each element is below all those after it.
pub rising-pairs : {X : Type 0} (below : X → X → Bool) (xs : List X) → ((a b c : X) → below a b ≡ true → below b c ≡ true → below a c ≡ true) → IsRising below xs
    → (i j : ℕ) (d : X) → i < j → j < length xs → below (get_or xs i d) (get_or xs j d) ≡ true
rising-pairs below xs trans rising i zero d order within = absurd (omega arith)
rising-pairs below xs trans rising i (suc m) d order within =
    let next : below (get_or xs m d) (get_or xs (suc m) d) ≡ true = rw add-one at (rising m d (omega arith)) in
    elim (cases_lt i m) [
      | inl h ↦ trans _ _ _ (rising-pairs below xs trans rising i m d h (omega arith)) next
      | inr h ↦ let same : i ≡ m = omega arith in rw same next
    ]
