-- How many lines were counted. The count is of 32 bits.
use Rattle.std.specs.Prelude.{◌≡◌, ℕ, ◌+◌, ◌-◌, ◌^◌, min, List, [], ◌∷◌, ◌++◌, refl}

-- The count after these lines.
abbrev pub counted : ℕ → List (List ℕ) → ℕ
counted count [] = count
counted count (line ∷ rest) = counted (min (count + 1) (2 ^ 32 - 1)) rest

-- Some lines and then others.
pub counted-append : (count : ℕ) (xs ys : List (List ℕ)) → counted (counted count xs) ys ≡ counted count (xs ++ ys)
counted-append count [] ys = refl
counted-append count (line ∷ rest) ys = counted-append (min (count + 1) (2 ^ 32 - 1)) rest ys
