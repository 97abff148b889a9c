-- What the stretches are in a legal journal, without the recursion that finds them.
use Rattle.std.specs.Prelude.{◌≡◌, ◌≢◌, ◌⊎◌, ℕ, ◌-◌, ◌<◌, ◌≤◌, Bool, true, false, List, ◌∷◌, Some, filter, is_some, map, slice_get}
use Rattle.std.specs.List.{range_with_len}
use Rattle.acas_base.specs.Encounter.{Parts}
use Rattle.acas_base.specs.declared.pairs.TheConstants.{PAIRS}
use Rattle.acas_base.specs.declared.advisory.Cell.TheVariants.{Ra}
use Rattle.acas_base.specs.declared.advisory.Cells.{Cells}
use Rattle.acas_base.specs.declared.advisory.Intent.{Intent}
use Rattle.acas_base.specs.declared.advisory.Rank.{Rank}
use Rattle.acas_base.specs.declared.advisory.Rank.TheVariants.{First, Second, Free}
use Rattle.acas_base.specs.declared.entry.Entry.{Entry}
use Rattle.acas_base.specs.declared.entry.Entry.TheVariants.{Commit}
use Rattle.air_rules.specs.Air.{Air, rank_of}
use Rattle.air_rules.specs.Journal.{Begins, cell_at, commits, last_cell}
use Rattle.summary.specs.Lines.{is_reversed}
use Rattle.summary.specs.Pairs.{comes_before, place_in_order, standing_at}
use Rattle.summary.specs.Stretches.{begins, cell_in, is_kept, last_of, starts_of, told_of}
use Rattle.summary.specs.declared.rows.Start.{Start}

-- A cycle shows something, and not the same as the cycle before it.
abbrev pub begins_in : List Entry → ℕ → ℕ → ℕ → Bool
begins_in journal own other cycle = begins (cell_in journal own other (cycle - 1)) (cell_in journal own other cycle)

abbrev pub first_cycle : Start → ℕ
first_cycle start = start.cycle

-- The stretches begin with all such cycles, in order.
abbrev pub AreAll : List Entry → ℕ → ℕ → List Start → Type 0
AreAll journal own other starts = map first_cycle starts ≡ filter (begins_in journal own other) (range_with_len 1 (commits journal own))

-- A stretch shows the same from its first cycle to its last one, and the cycle after that shows something else.
pub record IsLongest (journal : List Entry) (cycles own other first last : ℕ) : Type 0 where
  pub in_order : first ≤ last
  pub same : (cycle : ℕ) → first ≤ cycle → cycle < last → is_kept journal own other cycle ≡ true
  pub ends : last < cycles → is_kept journal own other last ≡ false

-- The commit with which a stretch begins. The message that it names was in force just before that commit.
pub record HasCommit (air : Air) (journal : List Entry) (own other : ℕ) (start : Start) : Type 0 where
  pub before : List Entry
  pub cells : Cells
  pub there : Begins (Commit own start.cycle cells ∷ before) journal
  pub told : start.told ≡ told_of air before own other

pub record AreStretches (air : Air) (journal : List Entry) (own other : ℕ) : Type 0 where
  pub all : AreAll journal own other (starts_of air journal own other)
  pub longest : (first : ℕ) → first ≤ air.cycles → IsLongest journal air.cycles own other first (last_of journal air.cycles own other first)
  pub commit : (place : ℕ) (start : Start) → slice_get (starts_of air journal own other) place ≡ Some start → HasCommit air journal own other start

-- What tells of a change of sense: an aircraft that gives way was turned by a message that is named; any other one was
-- reversed geometrically.
abbrev pub IsTurn : Air → List Entry → ℕ → ℕ → Intent → Intent → Rank → Type 0
IsTurn air before own other old new First = is_reversed old new ≡ true
IsTurn air before own other old new Free = is_reversed old new ≡ true
IsTurn air before own other old new Second = (is_reversed old new ≡ false) × (is_some (told_of air before own other) ≡ true)

-- Of each commit that changes a sense.
abbrev pub HasTrueTurns : Air → List Entry → Type 0
HasTrueTurns air journal = (before : List Entry) (own other cycle : ℕ) (cells : Cells) (old new : Intent) → own ≢ other →
    Begins (Commit own cycle cells ∷ before) journal → last_cell before own other ≡ Ra old → cell_at cells other ≡ Ra new → old.sense ≢ new.sense →
    IsTurn air before own other old new (rank_of air own other)

-- The pairs come in their order: each has a place, one that comes before another one has a lower place, and of two pairs
-- one comes before the other. So each pair has its lines once.
pub record AreInOrder (e : Parts) (journal : List Entry) : Type 0 where
  pub places : (pair : ℕ) → pair < PAIRS → place_in_order e journal pair < PAIRS
  pub rising : (one other : ℕ) → one < PAIRS → comes_before (standing_at e journal one) one (standing_at e journal other) other ≡ true →
      place_in_order e journal one < place_in_order e journal other
  pub total : (one other : ℕ) → is_some (standing_at e journal one) ≡ true → is_some (standing_at e journal other) ≡ true → one ≢ other →
      (comes_before (standing_at e journal one) one (standing_at e journal other) other ≡ true) ⊎ (comes_before (standing_at e journal other) other (standing_at e journal one) one ≡ true)
