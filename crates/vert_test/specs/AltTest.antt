-- The altitude test: is the other aircraft at nearly the same altitude, or will it soon be?
-- Heights and ZTHR are in 1/1024 ft, height rates in 1/1024 ft/s, TAU in s.
use Rattle.std.specs.Prelude.{◌≤◌, ◌⊎◌, ◌||◌, ◌&&◌, Bool, IsTrue, nat_le, ℤ, pos, int_lt, unsigned_abs}
use Rattle.acas_base.specs.declared.level.Row.{Row}
use Rattle.acas_num.specs.Seconds.{need}

-- One number is below zero and the other above it.
abbrev pub are_opposite : ℤ → ℤ → Bool
are_opposite a b = (int_lt a (pos 0) && int_lt (pos 0) b) || (int_lt (pos 0) a && int_lt b (pos 0))

-- The height shrinks. The time to the same altitude, in whole seconds and rounded up, is at most TAU.
pub record IsConvergingIn (dz dzdot : ℤ) (row : Row) : Type 0 where
  pub converging : IsTrue (are_opposite dz dzdot)
  pub soon : need (unsigned_abs dz) (unsigned_abs dzdot) ≤ unsigned_abs row.tau

-- The altitude test: within ZTHR, or converging in time.
abbrev pub IsAltHit : ℤ → ℤ → Row → Type 0
IsAltHit dz dzdot row = (unsigned_abs dz ≤ unsigned_abs row.zthr) ⊎ IsConvergingIn dz dzdot row

-- The same as a truth value. So what is seen is a function of what is known.
unfoldable pub is_altitude_hit : ℤ → ℤ → Row → Bool
is_altitude_hit dz dzdot row =
    nat_le (unsigned_abs dz) (unsigned_abs row.zthr)
    || (are_opposite dz dzdot && nat_le (need (unsigned_abs dz) (unsigned_abs dzdot)) (unsigned_abs row.tau))
