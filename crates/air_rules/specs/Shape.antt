-- What no order of the steps and no loss of a message can change: whether there is an advisory, since when, and how
-- many messages were sent.
use Rattle.std.specs.Prelude.{◌≡◌, ℕ, zero, suc, ◌+◌, Bool, not, ◌&&◌, ◌||◌, if◌then◌else◌, ◌==◌, nat_lt, List, ◌∷◌}
use Rattle.acas_base.specs.Messages.{has_advisory}
use Rattle.acas_base.specs.Next.{following_cell}
use Rattle.acas_base.specs.declared.advisory.Cell.{Cell}
use Rattle.acas_base.specs.declared.advisory.Cell.TheVariants.{Clear, Traffic, Ra}
use Rattle.acas_base.specs.declared.advisory.Cells.{Cells}
use Rattle.acas_base.specs.declared.advisory.Vrc.TheVariants.{Nil}
use Rattle.acas_base.specs.declared.entry.Entry.{Entry}
use Rattle.acas_base.specs.declared.entry.Entry.TheVariants.{Commit}
use Rattle.air_rules.specs.Air.{Air, is_ra, rank_of}
use Rattle.air_rules.specs.Journal.{Begins, cell_at, commits, sends}
use Rattle.air_rules.specs.Owed.{OwesNothing}
use Rattle.air_rules.specs.Rules.{IsComplete}

-- The shape of a cell: its kind, and the age of a resolution advisory. Which way the advisory goes and how strong it is
-- is no part of the shape.
pub data Shape : Type 0 where
  clear : Shape
  traffic : Shape
  resolution : (age : ℕ) → Shape

abbrev pub shape_of : Cell → Shape
shape_of Clear = clear
shape_of Traffic = traffic
shape_of (Ra intent) = resolution intent.age

-- A commit has a cell for the other aircraft.
abbrev pub has_cell_for : Air → ℕ → ℕ → Bool
has_cell_for air own other = nat_lt other air.places && (nat_lt other air.count && not (own == other))

-- The cell that an aircraft would have for another one in a cycle if it never took a message. It follows from the views
-- alone.
abbrev pub untold_cell : Air → ℕ → ℕ → ℕ → Cell
untold_cell air own other zero = Clear
untold_cell air own other (suc cycle) =
    if has_cell_for air own other
    then following_cell (untold_cell air own other cycle) (air.view own other (cycle + 1)) Nil (rank_of air own other)
    else Clear

-- Two aircraft send each other messages.
abbrev pub coordinate : Air → ℕ → ℕ → Bool
coordinate air own other = is_ra air own && (is_ra air other && not (own == other))

-- How many messages an aircraft sends to another one in cycles 1 to this one. There is one in each cycle with an
-- advisory, and in the first cycle after it.
abbrev pub messages_to : Air → ℕ → ℕ → ℕ → ℕ
messages_to air own other zero = 0
messages_to air own other (suc cycle) =
    if coordinate air own other && (has_advisory (untold_cell air own other (suc cycle)) || has_advisory (untold_cell air own other cycle))
    then messages_to air own other cycle + 1
    else messages_to air own other cycle

-- What is seen decides the shape of each cell, and how many messages are sent.
pub record IsShapedByViews (air : Air) (journal : List Entry) : Type 0 where
  pub cells_are : (earlier : List Entry) (own other cycle : ℕ) (cells : Cells) →
      Begins (Commit own cycle cells ∷ earlier) journal → shape_of (cell_at cells other) ≡ shape_of (untold_cell air own other cycle)
  -- Before each of its commits an aircraft owes nothing.
  pub sends_are : (earlier : List Entry) (own other : ℕ) →
      Begins earlier journal → OwesNothing air earlier own → sends earlier own other ≡ messages_to air own other (commits earlier own)

-- Two journals have one shape. Take the commits of an aircraft of one cycle. Their cells for another aircraft have the
-- same shape, and as many messages were sent to it before. Where both journals are complete, as many were sent to it in
-- all.
pub record HaveOneShape (one two : Air) (journal_one journal_two : List Entry) : Type 0 where
  pub cells_are : (own other cycle : ℕ) (earlier_one earlier_two : List Entry) (cells_one cells_two : Cells) →
      Begins (Commit own cycle cells_one ∷ earlier_one) journal_one → Begins (Commit own cycle cells_two ∷ earlier_two) journal_two →
      shape_of (cell_at cells_one other) ≡ shape_of (cell_at cells_two other)
  pub sends_are : (own other cycle : ℕ) (earlier_one earlier_two : List Entry) (cells_one cells_two : Cells) →
      Begins (Commit own cycle cells_one ∷ earlier_one) journal_one → Begins (Commit own cycle cells_two ∷ earlier_two) journal_two →
      sends earlier_one own other ≡ sends earlier_two own other
  pub in_all : IsComplete one journal_one → IsComplete two journal_two → (own other : ℕ) → sends journal_one own other ≡ sends journal_two own other
