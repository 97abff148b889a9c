-- Where two lists of lines differ.
use Rattle.std.specs.Prelude.{◌≡◌, ◌≢◌, ℕ, List, take, slice_get}

-- The first `count` lines are the same. The next one differs, or stands in one list alone.
pub record DifferAt (count : ℕ) (one other : List (List ℕ)) : Type 0 where
  pub front : take count one ≡ take count other
  pub here : slice_get one count ≢ slice_get other count
