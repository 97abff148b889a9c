-- How many whole seconds it takes to cover a distance.
use Rattle.std.specs.Prelude.{ℕ, ◌*◌, ◌≤◌}
use Rattle.std.specs.Int.{div_ceil}

-- The seconds in which a rate of b a second covers a, for b above 0: the quotient rounded up.
abbrev pub need : ℕ → ℕ → ℕ
need a b = div_ceil a b

-- t is the least whole number of seconds in which a rate of b a second covers a.
pub record IsNeed (a b t : ℕ) : Type 0 where
  pub enough : a ≤ t * b
  pub least : (u : ℕ) → a ≤ u * b → t ≤ u
