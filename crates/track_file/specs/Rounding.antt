-- Fractions, and the multiples of a unit that are nearest to them.
use Rattle.std.specs.Prelude.{ℕ, ◌+◌, ◌*◌, ◌<◌, ◌≤◌, ◌^◌, ◌==◌, ℤ, pos, ◌+ℤ◌, ◌*ℤ◌, ◌<ℤ◌, ◌≤ℤ◌, if◌then◌else◌, unsigned_abs}
use Rattle.std.specs.Int.{int_div_euclid}
use Rattle.track_file.specs.declared.rounding.Fraction.{Fraction}

-- A fraction whose bottom is above 0, in the ranges that tracks need.
pub record IsFraction (f : Fraction) : Type 0 where
  pub above : 0 < f.bottom
  pub bottom : f.bottom ≤ 2 ^ 23
  pub top : unsigned_abs f.top ≤ 2 ^ 45

-- The mean of two values with weights. Where both weights are 0 it is the first value.
abbrev pub mean : ℤ → ℕ → ℤ → ℕ → Fraction
mean first weight second other =
    if weight + other == 0 then record { top = first; bottom = 1 }
    else record { top = (first *ℤ pos weight) +ℤ (second *ℤ pos other); bottom = weight + other }

-- The multiple of a unit that is nearest to a fraction, and the greater one where two are as near. It is the unit times
-- a quotient that is rounded down: the fraction by the unit, and one half.
abbrev pub nearest : ℕ → Fraction → ℤ
nearest unit f = pos unit *ℤ int_div_euclid ((pos 2 *ℤ f.top) +ℤ pos (unit * f.bottom)) (pos (2 * (unit * f.bottom)))

-- A number is at most half a unit above a fraction, and less than half a unit below it.
pub record IsNear (unit : ℕ) (f : Fraction) (n : ℤ) : Type 0 where
  pub not_above : (pos 2 *ℤ (n *ℤ pos f.bottom)) ≤ℤ ((pos 2 *ℤ f.top) +ℤ pos (unit * f.bottom))
  pub not_below : (pos 2 *ℤ f.top) <ℤ ((pos 2 *ℤ (n *ℤ pos f.bottom)) +ℤ pos (unit * f.bottom))
