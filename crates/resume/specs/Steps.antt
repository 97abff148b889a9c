-- Single steps, wherever the journal stands.
use Rattle.std.specs.Prelude.{◌≡◌, ℕ, ◌<◌, ◌≤◌, Bool, true, List, ◌∷◌, Option, MatchOption}
use Rattle.acas_base.specs.declared.entry.Entry.{Entry}
use Rattle.acas_base.specs.declared.entry.Entry.TheVariants.{Send, Take}
use Rattle.air_journal.specs.Calls.{Hinders, IsFree, SentFirst, TookFirst}
use Rattle.air_journal.specs.declared.answers.Commit.{Commit}
use Rattle.air_rules.specs.Air.{Air, is_active}
use Rattle.air_rules.specs.Due.{NothingDue}
use Rattle.air_rules.specs.Journal.{commits}
use Rattle.air_rules.specs.Owed.{OwesNothing}
use Rattle.air_rules.specs.Serial.{IsIdle, IsUneven}
use Rattle.resume.specs.Filling.{FillsNext, IsFirstSend, IsFirstTake}

-- This is the aircraft with the fewest commits among the active ones of the first `count` aircraft. Of several such
-- aircraft it is the first.
pub record IsSlowestOf (air : Air) (journal : List Entry) (count own : ℕ) : Type 0 where
  pub active : is_active air own ≡ true
  pub below : own < count
  pub fewest : (other : ℕ) → other < count → is_active air other ≡ true → commits journal own ≤ commits journal other
  pub first : (other : ℕ) → is_active air other ≡ true → other < own → commits journal own < commits journal other

abbrev pub NoneActive : Air → ℕ → Type 0
NoneActive air count = (other : ℕ) → other < count → is_active air other ≡ true → ⊥

-- No active aircraft among the first `count` ones has more commits than `made`.
abbrev pub NobodyAhead : Air → List Entry → ℕ → ℕ → Type 0
NobodyAhead air journal made count = (other : ℕ) → other < count → is_active air other ≡ true → commits journal other ≤ made

-- Some active aircraft has more commits.
pub record IsSomeAhead (air : Air) (journal : List Entry) (made : ℕ) : Type 0 where
  pub own : ℕ
  pub active : is_active air own ≡ true
  pub more : made < commits journal own

-- None of the first `count` aircraft owes a message.
abbrev pub NoneOwes : Air → List Entry → ℕ → Type 0
NoneOwes air journal count = (other : ℕ) → other < count → OwesNothing air journal other

-- Nothing is due to the active ones of the first `count` aircraft.
abbrev pub NoneIsDue : Air → List Entry → ℕ → Type 0
NoneIsDue air journal count = (other : ℕ) → other < count → is_active air other ≡ true → NothingDue air journal other

-- All have equally many commits, nobody owes and nothing is due.
pub record IsAtRest (air : Air) (journal : List Entry) : Type 0 where
  pub even : IsUneven air journal → ⊥
  pub idle : IsIdle air journal

-- The first owed message was sent.
pub record SentOne (air : Air) (old new : List Entry) : Type 0 where
  pub own : ℕ
  pub target : ℕ
  pub number : ℕ
  pub word : ℕ
  pub first : IsFirstSend air old own target number word
  pub new_is : new ≡ Send own target number word ∷ old

-- The first due copy was taken.
pub record TookOne (air : Air) (old new : List Entry) : Type 0 where
  pub own : ℕ
  pub send : ℕ
  pub copy : ℕ
  pub good : Bool
  pub first : IsFirstTake air old own send copy good
  pub new_is : new ≡ Take own send copy good ∷ old

-- The slowest aircraft's commit comes next, and nothing hinders it.
pub record MayGo (air : Air) (journal : List Entry) (own : ℕ) : Type 0 where
  pub uneven : IsUneven air journal
  pub free : IsFree air journal own

-- Either all have equally many commits, or something hinders the commit.
pub data HasToWait (air : Air) (journal : List Entry) (own : ℕ) : Type 0 where
  is_even : (IsUneven air journal → ⊥) → HasToWait air journal own
  is_held : IsUneven air journal → (answer : Commit) → Hinders air journal own answer → HasToWait air journal own

-- One entry was added, the one that comes next.
pub record Stepped (air : Air) (old new : List Entry) : Type 0 where
  pub entry : Entry
  pub next : FillsNext air old entry
  pub new_is : new ≡ entry ∷ old

-- The slowest active one of the first `count` aircraft; none where none of them is active.
abbrev pub SlowestSoFar : Air → List Entry → ℕ → Option ℕ → Type 0
SlowestSoFar air journal count best = MatchOption best (NoneActive air count) (IsSlowestOf air journal count)

-- This aircraft sent, or took.
abbrev pub DidSend : Air → List Entry → ℕ → List Entry → Type 0
DidSend air old own new = (position : ℕ) × SentFirst air old own new position

abbrev pub DidTake : Air → List Entry → ℕ → List Entry → Type 0
DidTake air old own new = (position : ℕ) × (good : Bool) × TookFirst air old own new position good
