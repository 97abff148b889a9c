-- Numbers in hexadecimal digits 0-9A-F, in a fixed width.
use Rattle.std.specs.Prelude.{ℕ, zero, suc, ◌/◌, ◌%◌, List, [], ◌∷◌, ◌++◌, true}
use Rattle.std.specs.Fmt.{digit_glyph}

-- The last digits of a number, as many as the first argument says, the highest first. They are the whole number where
-- it is below 16 to the power of their count.
unfoldable pub hex : ℕ → ℕ → List ℕ
hex zero n = []
hex (suc k) n = hex k (n / 16) ++ digit_glyph true (n % 16) ∷ []
