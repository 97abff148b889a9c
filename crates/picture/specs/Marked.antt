-- The marks of the labels that are drawn.
use Rattle.std.specs.Prelude.{◌≡◌, ℕ, zero, suc, ◌+◌, ◌<◌, ◌≤◌, Bool, ◌&&◌, if◌then◌else◌, nat_le, List, [], ◌++◌, get_or, length, Option, Some, None, option_to_list}
use Rattle.labels.specs.Labels.{LabelWords, cycle_of}
use Rattle.labels.specs.Parts.{value_of}
use Rattle.picture.specs.declared.marked.Marked.{Marked}

-- The word of a mark, by its place in the list.
abbrev pub mark_word : LabelWords → ℕ → List ℕ
mark_word it place = get_or it.marks place []

-- Its cycle.
abbrev pub mark_cycle : LabelWords → ℕ → ℕ
mark_cycle it place = cycle_of it.start (mark_word it place)

-- Its text.
abbrev pub mark_text : LabelWords → ℕ → List ℕ
mark_text it place = value_of (mark_word it place)

-- A cycle lies from one to another one.
abbrev pub is_from : ℕ → ℕ → ℕ → Bool
is_from first last cycle = nat_le first cycle && nat_le cycle last

abbrev pub marked : ℕ → ℕ → Marked
marked place cycle = record { place = place; cycle = cycle }

-- The mark at a place of the list, where its cycle is one of the run.
unfoldable pub marked_at : LabelWords → ℕ → ℕ → Option Marked
marked_at it cycles place = if is_from 1 cycles (mark_cycle it place) then Some (marked place (mark_cycle it place)) else None

-- Those of the first places, in order.
unfoldable pub marked_among : LabelWords → ℕ → ℕ → List Marked
marked_among it cycles zero = []
marked_among it cycles (suc n) = marked_among it cycles n ++ option_to_list (marked_at it cycles n)

-- All of them.
abbrev pub all_marked : LabelWords → ℕ → List Marked
all_marked it cycles = marked_among it cycles (length it.marks)

-- How many marks of the first places are of a cycle from one to another one.
abbrev pub counted : Bool → ℕ → ℕ
counted more count = if more then count + 1 else count

unfoldable pub count_among : LabelWords → ℕ → ℕ → ℕ → ℕ
count_among it first last zero = 0
count_among it first last (suc n) = counted (is_from first last (mark_cycle it n)) (count_among it first last n)

-- A mark stands in the list, and its cycle is one of the run.
pub record IsMarked (it : LabelWords) (cycles : ℕ) (marked : Marked) : Type 0 where
  pub there : marked.place < length it.marks
  pub cycle : marked.cycle ≡ mark_cycle it marked.place
  pub begun : 1 ≤ marked.cycle
  pub in_run : marked.cycle ≤ cycles
