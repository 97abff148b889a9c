-- Ranges of numbers.
use Rattle.std.specs.Prelude.{ℕ, ◌≤◌, ℤ, pos, neg_ℤ, ◌≤ℤ◌}

-- A number between two others, both included.
abbrev pub IsBetween : ℤ → ℤ → ℤ → Type 0
IsBetween low high n = (low ≤ℤ n) × (n ≤ℤ high)

-- A number of at most this size, on either side of zero.
abbrev pub IsWithin : ℕ → ℤ → Type 0
IsWithin size n = IsBetween (neg_ℤ (pos size)) (pos size) n

-- A cycle of the longest run, counted from 1.
abbrev pub IsCycle : ℕ → Type 0
IsCycle k = (1 ≤ k) × (k ≤ 600)

-- An address: 24 bits, neither all zeros nor all ones.
abbrev pub IsAddress : ℕ → Type 0
IsAddress n = (1 ≤ n) × (n ≤ 16777214)
