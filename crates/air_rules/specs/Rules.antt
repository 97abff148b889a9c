-- Which entry may come next, and so which journals are legal (this project's profile).
use Rattle.std.specs.Prelude.{◌≡◌, ℕ, ◌+◌, ◌≤◌, Bool, true, not, ◌&&◌, if◌then◌else◌, ◌==◌, nat_lt, List, [], ◌∷◌, map, is_some}
use Rattle.std.specs.List.{range_with_len}
use Rattle.acas_base.specs.Next.{following_cell}
use Rattle.acas_base.specs.declared.advisory.Cell.{Cell}
use Rattle.acas_base.specs.declared.advisory.Cell.TheVariants.{Clear}
use Rattle.acas_base.specs.declared.advisory.Cells.{Cells}
use Rattle.acas_base.specs.declared.advisory.ResMsg.{ResMsg}
use Rattle.acas_base.specs.declared.entry.Entry.{Entry}
use Rattle.acas_base.specs.declared.entry.Entry.TheVariants.{Commit, Send, Take}
use Rattle.air_rules.specs.Air.{Air, is_active, rank_of}
use Rattle.air_rules.specs.Due.{NothingDue, is_due}
use Rattle.air_rules.specs.Journal.{commits, sends, last_cell, sent_at}
use Rattle.air_rules.specs.Owed.{OwesNothing, IsFirstOwed}
use Rattle.air_rules.specs.Takes.{complement_from, read_copy}

-- The cell of an aircraft for another one in its next commit, after the journal so far.
abbrev pub cell_for : Air → List Entry → ℕ → ℕ → Cell
cell_for air journal own other =
    if nat_lt other air.count && not (own == other)
    then following_cell (last_cell journal own other) (air.view own other (commits journal own + 1)) (complement_from air journal own other) (rank_of air own other)
    else Clear

-- The cells of its next commit.
abbrev pub cells_for : Air → List Entry → ℕ → Cells
cells_for air journal own = record { list = map (λ other. cell_for air journal own other) (range_with_len 0 air.places) }

-- An aircraft commits its next cycle when it owes no message, no copy is due to it, and no active aircraft has fewer
-- commits.
pub record MayCommit (air : Air) (journal : List Entry) (own cycle : ℕ) (cells : Cells) : Type 0 where
  pub active : is_active air own ≡ true
  pub cycle_is : cycle ≡ commits journal own + 1
  pub in_run : cycle ≤ air.cycles
  pub owes_nothing : OwesNothing air journal own
  pub nothing_due : NothingDue air journal own
  pub not_ahead : (other : ℕ) → is_active air other ≡ true → commits journal own ≤ commits journal other
  pub cells_are : cells ≡ cells_for air journal own

-- An aircraft sends the first message that it owes.
pub record MaySend (air : Air) (journal : List Entry) (own target number word : ℕ) : Type 0 where
  pub active : is_active air own ≡ true
  pub message : ResMsg
  pub first_owed : IsFirstOwed air journal own target message
  pub number_is : number ≡ sends journal own target + 1
  pub word_is : word ≡ air.word message

-- An aircraft takes any copy that is due to it. The take is good where the copy reads as a message.
pub record MayTake (air : Air) (journal : List Entry) (own send copy : ℕ) (good : Bool) : Type 0 where
  pub active : is_active air own ≡ true
  pub due : is_due air journal own send copy ≡ true
  pub good_is : good ≡ is_some (read_copy air (sent_at journal send) copy)

abbrev pub IsAllowed : Air → List Entry → Entry → Type 0
IsAllowed air journal (Commit own cycle cells) = MayCommit air journal own cycle cells
IsAllowed air journal (Send own target number word) = MaySend air journal own target number word
IsAllowed air journal (Take own send copy good) = MayTake air journal own send copy good

-- A journal is legal where each entry is allowed after those before it.
pub data IsLegal (air : Air) : List Entry → Type 0 where
  empty : IsLegal air []
  extended : {entry : Entry} {earlier : List Entry} → IsLegal air earlier → IsAllowed air earlier entry → IsLegal air (entry ∷ earlier)

-- A journal is complete where every active aircraft has all its commits and owes nothing. Copies may still be due or
-- held back.
pub record IsDone (air : Air) (journal : List Entry) (own : ℕ) : Type 0 where
  pub all_cycles : commits journal own ≡ air.cycles
  pub owes_nothing : OwesNothing air journal own

abbrev pub IsComplete : Air → List Entry → Type 0
IsComplete air journal = (own : ℕ) → is_active air own ≡ true → IsDone air journal own
