-- The fields of a line.
use Rattle.std.specs.Prelude.{ℕ, ◌==◌, List}
use Rattle.std.specs.List.{slice_split}

-- A line, without its line feed, is cut at its commas.
abbrev pub fields_of : List ℕ → List (List ℕ)
fields_of line = slice_split (λ c. c == 44) line
