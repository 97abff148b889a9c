-- The fields of a line that are still to come.
use Rattle.std.specs.Prelude.{◌≡◌, ◌≢◌, ℕ, ◌≤◌, List, [], length, slice_index, Option, Some, None}
use Rattle.std.specs.Borrow.{Bor}
pub use Rattle.rec_text.specs.Fields.{fields_of}

-- The fields of what is left of a line; none where it is used up.
abbrev pub fields_left : Option (Bor (List ℕ)) → List (List ℕ)
fields_left None = []
fields_left (Some rest) = fields_of rest.now

-- The first field is a single byte, and another field follows.
pub record BeginsShort (text : List ℕ) : Type 0 where
  pub long : 2 ≤ length text
  pub field : slice_index text 0 ≢ 44
  pub comma : slice_index text 1 ≡ 44
