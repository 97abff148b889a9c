-- Times of day.
use Rattle.std.specs.Prelude.{ℕ, ◌+◌, ◌/◌, ◌%◌, List, ◌++◌, ◌∷◌, [], codes}

-- Two digits.
abbrev pub pair : ℕ → List ℕ
pair n = (48 + n / 10 % 10) ∷ (48 + n % 10) ∷ []

-- A second of the day as hh:mm:ss.
unfoldable pub clock_text : ℕ → List ℕ
clock_text second = pair (second / 3600) ++ codes ":" ++ pair (second / 60 % 60) ++ codes ":" ++ pair (second % 60)
