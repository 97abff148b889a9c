-- Lines of a text.
use Rattle.std.specs.Prelude.{ℕ, List, [], ◌∷◌, ◌++◌}
use Rattle.std.specs.Fmt.{decimal}
use Rattle.std.specs.List.{flat_map, join_with_byte}

-- The text of lines, one after the other.
abbrev pub joined : List (List ℕ) → List ℕ
joined lines = flat_map (λ line. line) lines

-- The line of some fields: a comma stands before each but the first, and a line feed at the end.
abbrev pub line_of : List (List ℕ) → List ℕ
line_of fields = join_with_byte 44 fields ++ 10 ∷ []

-- The line of a word and a count.
abbrev pub count_line : List ℕ → ℕ → List ℕ
count_line word count = line_of (word ∷ decimal count ∷ [])
