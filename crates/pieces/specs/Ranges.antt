-- The pieces of a text, as the code holds them.
use Rattle.std.specs.Prelude.{ℕ, ◌-◌, ◌<◌, ◌≤◌, ◌^◌, List, All, drop, length, map, take}
use Rattle.pieces.specs.declared.cutting.Range.{Range}

-- The bytes of a range.
abbrev pub part : List ℕ → Range → List ℕ
part text range = take (range.end - range.start) (drop range.start text)

abbrev pub parts : List ℕ → List Range → List (List ℕ)
parts text ranges = map (part text) ranges

-- The range lies in the text.
pub record IsRange (text : List ℕ) (range : Range) : Type 0 where
  pub ordered : range.start ≤ range.end
  pub inside : range.end ≤ length text

-- A text of fewer than 2 ^ 32 - 1 bytes, and ranges in it.
pub record IsHeld (text : List ℕ) (ranges : List Range) : Type 0 where
  pub short : length text < 2 ^ 32 - 1
  pub inside : All (IsRange text) ranges
  pub few : length ranges ≤ length text
