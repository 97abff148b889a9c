-- Steps between the ticks of an axis.
use Rattle.std.specs.Prelude.{ℕ, ◌*◌, ◌<◌, ◌≤◌, if◌then◌else◌, nat_le, List, [], ◌∷◌}
use Rattle.std.specs.List.{AllByRecursion}

-- The first step of a list of which `most` reach over a span. Where none does, it is the last one.
abbrev pub step_for : ℕ → ℕ → ℕ → List ℕ → ℕ
step_for span most last [] = last
step_for span most last (step ∷ steps) = if nat_le span (most * step) then step else step_for span most step steps

-- The steps of a list rise.
abbrev pub AreRising : ℕ → List ℕ → Type 0
AreRising before [] = Unit {0}
AreRising before (step ∷ steps) = (before < step) × AreRising step steps

-- A step is the least one that fits: if any step of the list fits, it fits as well and isn't greater.
abbrev pub IsLeast : ℕ → ℕ → List ℕ → ℕ → Type 0
IsLeast span most steps found = AllByRecursion (λ step. span ≤ most * step → (span ≤ most * found) × (found ≤ step)) steps
