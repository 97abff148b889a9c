-- Where values stand along an axis.
use Rattle.std.specs.Prelude.{ℕ, ◌+◌, ◌*◌, ◌/◌, ◌<◌, ◌≤◌, ℤ, ◌-ℤ◌, unsigned_abs}

-- A share of a length: `part` of `whole`, rounded down.
abbrev pub share : ℕ → ℕ → ℕ → ℕ
share length whole part = length * part / whole

-- How far along a length a value stands, where `low` is at its beginning and `high` at its end.
abbrev pub along : ℕ → ℤ → ℤ → ℤ → ℕ
along length low high value = share length (unsigned_abs (high -ℤ low)) (unsigned_abs (value -ℤ low))

-- A part and a greater one stand in this order, within the length. A place loses less than one unit of the exact one,
-- which is `length * part / whole`.
pub record IsKept (length whole part more : ℕ) : Type 0 where
  pub in_order : share length whole part ≤ share length whole more
  pub within : share length whole more ≤ length
  pub not_past : share length whole part * whole ≤ length * part
  pub near : length * part < (share length whole part + 1) * whole
