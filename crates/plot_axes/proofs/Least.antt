-- The least step that fits.
use Rattle.std.proofs.Common.{ℕ, ◌*◌, ◌≤◌, cond, List, [], ◌∷◌, sym, ap, subst, arith, inl, inr}
use Rattle.std.proofs.lemmas.Bool.{cases_lt, le-leb, lt-leb}
use Rattle.plot_axes.specs.Steps.{AreRising, IsLeast, step_for}

-- Where a step fits, those after it are greater.
after : (span most found before : ℕ) (steps : List ℕ) → found ≤ before → span ≤ most * found → AreRising before steps → IsLeast span most steps found
after span most found before [] order fits rising = tt
after span most found before (step ∷ steps) order fits rising =
    let less = rising.0 in
    ((λ _. (fits, omega arith)), after span most found step steps (omega arith) fits rising.1)

pub least : (span most last before : ℕ) (steps : List ℕ) → AreRising before steps → IsLeast span most steps (step_for span most last steps)
least span most last before [] rising = tt
least span most last before (step ∷ steps) rising =
    let rest = step_for span most step steps in
    elim (cases_lt (most * step) span) [
      | inl h ↦ subst (IsLeast span most (step ∷ steps)) (ap (λ t. cond t step rest) (sym (lt-leb span (most * step) h)))
          ((λ fits. absurd (omega arith)), least span most step step steps rising.1)
      | inr h ↦ subst (IsLeast span most (step ∷ steps)) (ap (λ t. cond t step rest) (sym (le-leb span (most * step) h)))
          ((λ _. (h, omega arith)), after span most step step steps (omega arith) h rising.1)
    ]
