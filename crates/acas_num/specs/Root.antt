-- The whole root: a relation, and a function that meets it.
use Rattle.std.specs.Prelude.{ℕ, zero, suc, ◌+◌, ◌*◌, ◌≤◌, if◌then◌else◌, nat_le}

-- r is the greatest number whose square is at most n.
pub record IsRoot (n r : ℕ) : Type 0 where
  pub square : r * r ≤ n
  pub greatest : (s : ℕ) → s * s ≤ n → s ≤ r

-- The root of n + 1 is the root of n, or one more where the square of that is at most n + 1.
unfoldable pub root : ℕ → ℕ
root zero = 0
root (suc n) = if nat_le ((root n + 1) * (root n + 1)) (suc n) then root n + 1 else root n
