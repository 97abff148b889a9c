-- The projection of an altitude: a sum of single rates, one for each half-second.
-- Altitudes are in 1/1024 ft, rates in 1/1024 ft/s; a step is how much a rate moves in a half-second.
use Rattle.std.specs.Prelude.{ℕ, zero, suc, ◌-◌, if◌then◌else◌, nat_le, ℤ, pos, ◌+ℤ◌, ◌-ℤ◌, ◌*ℤ◌, int_le}
use Rattle.std.specs.Int.{int_min, int_max, int_div_euclid}

-- The rate of half-second h. In the delay it is own rate v. In each half-second after it, it moves one more step
-- towards the goal, and never past it.
abbrev pub rate_at : ℤ → ℤ → ℕ → ℤ → ℕ → ℤ
rate_at v goal delay step h =
    if nat_le h delay then v
    else if int_le v goal then int_min (v +ℤ (pos (h - delay) *ℤ step)) goal
    else int_max (v -ℤ (pos (h - delay) *ℤ step)) goal

-- The sum of the rates of the half-seconds 1 to n.
abbrev pub rates : ℤ → ℤ → ℕ → ℤ → ℕ → ℤ
rates v goal delay step zero = pos 0
rates v goal delay step (suc n) = rates v goal delay step n +ℤ rate_at v goal delay step (suc n)

-- The altitude after n half-seconds: z and half of that sum, rounded down once.
abbrev pub projected : ℤ → ℤ → ℤ → ℕ → ℤ → ℕ → ℤ
projected z v goal delay step n = z +ℤ int_div_euclid (rates v goal delay step n) (pos 2)
