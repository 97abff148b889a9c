-- Two recordings, one after the other.
use Rattle.std.specs.Prelude.{◌≡◌, ◌≢◌, ◌⊎◌, ℕ, List, [], ◌∷◌, ◌++◌}
use Rattle.std.specs.List.{AllByRecursion}
use Rattle.acas_lines.specs.Split.{lines_of}
use Rattle.rec_text.specs.Recording.{close_line}

-- No line is the close.
abbrev pub HasNoClose : List (List ℕ) → Type 0
HasNoClose lines = AllByRecursion (λ line. line ≢ close_line) lines

-- The last line is the close, and no other one is.
pub record EndsWithClose (lines : List (List ℕ)) : Type 0 where
  pub front : List (List ℕ)
  pub none : HasNoClose front
  pub lines_are : lines ≡ front ++ close_line ∷ []

-- The bytes are cut behind their first line `close`. Where they have none, all stand in the first part.
pub record IsSplit (bytes one other : List ℕ) : Type 0 where
  pub bytes_are : bytes ≡ one ++ other
  pub lines_are : lines_of bytes ≡ lines_of one ++ lines_of other
  pub first : EndsWithClose (lines_of one) ⊎ (HasNoClose (lines_of one) × (other ≡ []))
