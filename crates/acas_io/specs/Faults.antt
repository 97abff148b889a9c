-- When a count of faults has risen, and how an answer fits it.
use Rattle.std.specs.Prelude.{◌≡◌, ℕ, ◌+◌, ◌-◌, ◌^◌, ◌≤◌, min, Result, MatchResult}

-- The count after one more fault. It stays at the last value of 64 bits.
abbrev pub one_more : ℕ → ℕ
one_more count = min (count + 1) (2 ^ 64 - 1)

-- The count rose in a call: it is higher than before, or stood at the last value of 64 bits already.
abbrev pub Rose : ℕ → ℕ → Type 0
Rose before now = one_more before ≤ now

-- An error counted one fault, and `Ok` none.
abbrev pub CountsOne : {T E : Type 0} → ℕ → ℕ → Result T E → Type 0
CountsOne before now result = MatchResult result (λ _. now ≡ before) (λ _. now ≡ one_more before)
