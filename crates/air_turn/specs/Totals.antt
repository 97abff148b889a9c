-- Sums over lists, and numbers that are 1 where something holds and 0 elsewhere.
use Rattle.std.specs.Prelude.{ℕ, ◌+◌, ◌-◌, min, List, [], ◌∷◌}

-- The sum of f over a list.
abbrev pub total : {X : Type 0} → (X → ℕ) → List X → ℕ
total f [] = 0
total f (x ∷ xs) = f x + total f xs

-- 1 where the two are equal.
abbrev pub one : ℕ → ℕ → ℕ
one t k = 1 - ((t - k) + (k - t))

-- 1 from low on and below high.
abbrev pub between : ℕ → ℕ → ℕ → ℕ
between low high t = min 1 (high - t) - min 1 (low - t)
