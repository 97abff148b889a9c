-- The serial journal. It goes by rounds: in a round every active aircraft commits, then all owed messages are sent,
-- then all due copies are taken.
use Rattle.std.specs.Prelude.{◌≡◌, ◌⊎◌, ℕ, ◌+◌, ◌<◌, ◌≤◌, Bool, true, false, List, [], ◌∷◌}
use Rattle.acas_base.specs.declared.advisory.Cells.{Cells}
use Rattle.acas_base.specs.declared.entry.Entry.{Entry}
use Rattle.acas_base.specs.declared.entry.Entry.TheVariants.{Commit, Send, Take}
use Rattle.air_rules.specs.Air.{Air, is_active}
use Rattle.air_rules.specs.Due.{IsFirstDue, NobodyIsDue, NothingDue}
use Rattle.air_rules.specs.Journal.{commits}
use Rattle.air_rules.specs.Owed.{NobodyOwes, OwesNothing}
use Rattle.air_rules.specs.Rules.{MaySend, MayTake, cells_for}

-- Two active aircraft have different numbers of commits.
pub record IsUneven (air : Air) (journal : List Entry) : Type 0 where
  pub fewer : ℕ
  pub more : ℕ
  pub active_fewer : is_active air fewer ≡ true
  pub active_more : is_active air more ≡ true
  pub below : commits journal fewer < commits journal more

-- There is nothing to send and nothing to take.
pub record IsIdle (air : Air) (journal : List Entry) : Type 0 where
  pub nobody_owes : NobodyOwes air journal
  pub nobody_is_due : NobodyIsDue air journal

-- The active aircraft of least index among those with the fewest commits.
pub record IsSlowest (air : Air) (journal : List Entry) (own : ℕ) : Type 0 where
  pub active : is_active air own ≡ true
  pub fewest : (other : ℕ) → is_active air other ≡ true → commits journal own ≤ commits journal other
  pub first : (other : ℕ) → is_active air other ≡ true → other < own → commits journal own < commits journal other

-- A commit comes next. Either the round isn't over for everybody, or another round begins.
abbrev pub IsTimeToCommit : Air → List Entry → ℕ → Type 0
IsTimeToCommit air journal own = IsUneven air journal ⊎ (IsIdle air journal × (commits journal own < air.cycles))

-- First, the commit of the slowest aircraft.
pub record CommitsNext (air : Air) (journal : List Entry) (own cycle : ℕ) (cells : Cells) : Type 0 where
  pub slowest : IsSlowest air journal own
  pub time : IsTimeToCommit air journal own
  pub cycle_is : cycle ≡ commits journal own + 1
  pub cells_are : cells ≡ cells_for air journal own

-- Else the first owed message, by sender and receiver.
pub record SendsNext (air : Air) (journal : List Entry) (own target number word : ℕ) : Type 0 where
  pub even : IsUneven air journal → ⊥
  pub allowed : MaySend air journal own target number word
  pub first : (before : ℕ) → before < own → OwesNothing air journal before

-- Else the first due copy, by receiver, position and copy.
pub record TakesNext (air : Air) (journal : List Entry) (own send copy : ℕ) (good : Bool) : Type 0 where
  pub even : IsUneven air journal → ⊥
  pub nobody_owes : NobodyOwes air journal
  pub allowed : MayTake air journal own send copy good
  pub first : (before : ℕ) → before < own → is_active air before ≡ true → NothingDue air journal before
  pub first_due : IsFirstDue air journal own send copy

abbrev pub ComesNext : Air → List Entry → Entry → Type 0
ComesNext air journal (Commit own cycle cells) = CommitsNext air journal own cycle cells
ComesNext air journal (Send own target number word) = SendsNext air journal own target number word
ComesNext air journal (Take own send copy good) = TakesNext air journal own send copy good

-- Each entry is the one that comes next after those before it.
pub data IsInOrder (air : Air) : List Entry → Type 0 where
  started : IsInOrder air []
  followed : {entry : Entry} {earlier : List Entry} → IsInOrder air earlier → ComesNext air earlier entry → IsInOrder air (entry ∷ earlier)

-- The serial journal is in order, and no entry comes next after it.
pub record IsSerial (air : Air) (journal : List Entry) : Type 0 where
  pub in_order : IsInOrder air journal
  pub ended : (entry : Entry) → ComesNext air journal entry → ⊥
