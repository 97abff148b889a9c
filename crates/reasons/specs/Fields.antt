-- The texts of single fields.
use Rattle.std.specs.Prelude.{ℕ, ℤ, pos, ◌*ℤ◌, List, [], ◌∷◌, ◌++◌, replicate}
use Rattle.std.specs.Int.{int_div_euclid}

-- What there is of a line goes on with a field, or with several ones.
abbrev pub with_field : List ℕ → List ℕ → List ℕ
with_field line field = line ++ 44 ∷ field

abbrev pub with_fields : List ℕ → List (List ℕ) → List ℕ
with_fields line [] = line
with_fields line (field ∷ rest) = with_fields (with_field line field) rest

-- So many fields with nothing in them.
abbrev pub nothing : ℕ → List (List ℕ)
nothing count = replicate count []

-- The tenths in a number of 1/1024, rounded down: tenths of a foot of a length in 1/1024 ft, tenths of ft/s of a rate
-- in 1/1024 ft/s.
abbrev pub tenths_of : ℤ → ℤ
tenths_of n = int_div_euclid (pos 10 *ℤ n) (pos 1024)

-- Tenths of ft/min of a rate in 1/1024 ft/s, rounded down.
abbrev pub tenths_a_minute_of : ℤ → ℤ
tenths_a_minute_of rate = tenths_of (pos 60 *ℤ rate)
