-- A text split into its lines.
use Rattle.std.specs.Prelude.{◌≡◌, ◌≢◌, ◌⊎◌, ℕ, ◌<◌, ◌==◌, if◌then◌else◌, List, [], ◌∷◌, ◌++◌, length}
use Rattle.std.specs.List.{AllByRecursion, onto_first}

-- A text is split after each line feed. So each line ends with its line feed, except that the last one may lack it.
abbrev pub lines_of : List ℕ → List (List ℕ)
lines_of [] = []
lines_of (c ∷ cs) = if c == 10 then (10 ∷ []) ∷ lines_of cs else onto_first c (lines_of cs)

-- One whole line: bytes that are no line feeds, and then a line feed.
pub record IsLine (line : List ℕ) : Type 0 where
  pub body : List ℕ
  pub inside : AllByRecursion (λ c. c ≢ 10) body
  pub whole : line ≡ body ++ 10 ∷ []

-- The first line of a text. It ends with its line feed, or nothing stands behind it.
pub record IsFirstLine (text line : List ℕ) : Type 0 where
  pub some : 0 < length line
  pub rest : List ℕ
  pub text_is : text ≡ line ++ rest
  pub lines_are : lines_of text ≡ line ∷ lines_of rest
  pub whole : IsLine line ⊎ (rest ≡ [])
