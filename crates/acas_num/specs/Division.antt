-- Division of whole numbers, rounded down.
use Rattle.std.specs.Prelude.{ℤ, pos, ◌+ℤ◌, ◌*ℤ◌, ◌≤ℤ◌, ◌<ℤ◌}

-- q is a / b rounded down, for b above 0: the greatest whole number whose product with b is at most a.
pub record IsQuotient (a b q : ℤ) : Type 0 where
  pub within : (q *ℤ b) ≤ℤ a
  pub no_more : a <ℤ ((q +ℤ pos 1) *ℤ b)
