-- What stands in one of two recordings alone.
use Rattle.std.specs.Prelude.{ℕ, List, [], ◌∷◌, codes}
use Rattle.std.specs.List.{flat_map}
use Rattle.comparison.specs.declared.sides.Side.{Side}
use Rattle.comparison.specs.declared.sides.Side.TheVariants.{One, Other}

-- The word of a side, with a comma.
abbrev pub side_text : Side → List ℕ
side_text One = codes "one,"
side_text Other = codes "other,"

-- Lines that a side has, each behind the word of the side. The word is a part of its own, without a line feed, so both
-- make one line of the text.
abbrev pub told : Side → List (List ℕ) → List (List ℕ)
told side lines = flat_map (λ line. side_text side ∷ line ∷ []) lines
