-- Numbers kept between two ends.
use Rattle.std.specs.Prelude.{ℤ, ◌≤ℤ◌}
use Rattle.std.specs.Int.{int_max, int_min}

-- Not below the lower end and not above the higher one.
pub record LiesBetween (low high a : ℤ) : Type 0 where
  pub at_least : low ≤ℤ a
  pub at_most : a ≤ℤ high

-- The number itself, or the end that it lies beyond.
unfoldable pub clamped : ℤ → ℤ → ℤ → ℤ
clamped low high a = int_max low (int_min a high)
