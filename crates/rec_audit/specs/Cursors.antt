-- A text that is read line by line.
use Rattle.std.specs.Prelude.{◌≡◌, ◌≢◌, ℕ, ◌+◌, Bool, true, MatchBool, List, [], ◌∷◌, ◌++◌, length}

-- The lines that are still to come, and how many were taken before them.
pub record Cursor : Type 0 where
  pub left : List (List ℕ)
  pub taken : ℕ

-- These lines were taken.
pub record Took (before now : Cursor) (lines : List (List ℕ)) : Type 0 where
  pub lines_are : before.left ≡ lines ++ now.left
  pub taken_is : now.taken ≡ before.taken + length lines

-- The next line was taken where it is this one. Else no line was taken.
abbrev pub TakesLine : Cursor → Cursor → List ℕ → Bool → Type 0
TakesLine before after line taken = MatchBool taken (Took before after (line ∷ [])) ((after ≡ before) × ((rest : List (List ℕ)) → before.left ≢ line ∷ rest))

-- A front of these lines was taken. The next one of them isn't the line that comes.
pub record StoppedIn (before now : Cursor) (lines : List (List ℕ)) : Type 0 where
  pub front : List (List ℕ)
  pub took : Took before now front
  pub next : List ℕ
  pub later : List (List ℕ)
  pub lines_are : lines ≡ front ++ next ∷ later
  pub differs : (rest : List (List ℕ)) → now.left ≢ next ∷ rest

-- What a comparison with these lines does. It does nothing where an earlier line differed.
abbrev pub Compares : Cursor → Cursor → Bool → Bool → List (List ℕ) → Type 0
Compares before now differed differs lines = MatchBool differed ((now ≡ before) × (differs ≡ true)) (MatchBool differs (StoppedIn before now lines) (Took before now lines))
