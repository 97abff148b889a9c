-- The first element that passes a test.
use Rattle.std.proofs.Common.{◌≡◌, ℕ, ◌<◌, Bool, true, false, List, [], ◌∷◌, length, get_or, zero, suc, refl, arith, Some, None}
use Rattle.std.specs.Prelude.{find}

-- No element passes.
pub find-none : {X : Type 0} (test : X → Bool) (xs : List X) → ((k : ℕ) (d : X) → k < length xs → test (get_or xs k d) ≡ false) → find test xs ≡ None
find-none test [] none = refl
find-none test (x ∷ xs) none = rw (none 0 x (omega arith)) (find-none test xs (λ k d h. none (suc k) d (omega arith)))

-- The element at a place passes, and none before it.
pub find-here : {X : Type 0} (test : X → Bool) (xs : List X) (n : ℕ) (x : X) → n < length xs → test (get_or xs n x) ≡ true → ((k : ℕ) (d : X) → k < n → test (get_or xs k d) ≡ false) → find test xs ≡ Some (get_or xs n x)
find-here test [] n x within passes before = absurd (omega arith)
find-here test (y ∷ ys) zero x within passes before = rw passes refl
find-here test (y ∷ ys) (suc n) x within passes before =
    rw (before 0 y (omega arith)) (find-here test ys n x (omega arith) passes (λ k d h. before (suc k) d (omega arith)))
