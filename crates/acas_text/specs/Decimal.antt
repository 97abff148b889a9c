-- Plain decimals: an optional `-` and digits. No zero stands in front, except in `0` itself, and `-0` is none.
use Rattle.std.specs.Prelude.{◌≡◌, ◌≢◌, ℕ, ℤ, ◌<◌, ◌≤◌, ◌^◌, List, MatchOption, Option, length, slice_index, unsigned_abs}
use Rattle.std.specs.Fmt.{decimal, signed_decimal}

-- These bytes are the plain decimal of this number, which has at most ten digits.
abbrev pub IsPlain : List ℕ → ℤ → Type 0
IsPlain bytes n = (bytes ≡ signed_decimal n) × (unsigned_abs n < 10 ^ 10)

-- A number of a range, both ends included.
abbrev pub IsWithin : ℕ → ℕ → ℕ → Type 0
IsWithin low high n = (low ≤ n) × (n ≤ high)

-- The bytes are the plain decimal of this number of a range; with None, they are the plain decimal of no number of the
-- range.
abbrev pub SpellsWithin : ℕ → ℕ → List ℕ → Option ℕ → Type 0
SpellsWithin low high bytes found =
    MatchOption found ((n : ℕ) → IsWithin low high n → decimal n ≢ bytes) (λ n. IsWithin low high n × (bytes ≡ decimal n))

-- There is at least one byte, and no zero stands in front of other bytes.
pub record IsShort (bytes : List ℕ) : Type 0 where
  pub some : 0 < length bytes
  pub lead : slice_index bytes 0 ≡ 48 → length bytes ≡ 1
