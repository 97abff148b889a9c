-- What each call does: the journal before it, the aircraft, the journal after it and the answer.
use Rattle.std.specs.Prelude.{◌≡◌, ℕ, ◌<◌, ◌≤◌, Bool, true, false, List, ◌∷◌, length}
use Rattle.acas_base.specs.declared.advisory.Cells.{Cells}
use Rattle.acas_base.specs.declared.advisory.ResMsg.{ResMsg}
use Rattle.acas_base.specs.declared.entry.Entry.{Entry}
use Rattle.acas_base.specs.declared.entry.Entry.TheVariants as entries
use Rattle.air_journal.specs.declared.answers.Commit.{Commit}
use Rattle.air_journal.specs.declared.answers.Commit.TheVariants as commit
use Rattle.air_journal.specs.declared.answers.Sent.{Sent}
use Rattle.air_journal.specs.declared.answers.Sent.TheVariants as sent
use Rattle.air_journal.specs.declared.answers.Took.{Took}
use Rattle.air_journal.specs.declared.answers.Took.TheVariants as took
use Rattle.air_journal.specs.declared.answers.TookThis.{TookThis}
use Rattle.air_journal.specs.declared.answers.TookThis.TheVariants as took_this
use Rattle.air_rules.specs.Air.{Air, is_active}
use Rattle.air_rules.specs.Due.{IsFirstDue, NothingDue, is_due}
use Rattle.air_rules.specs.Journal.{commits}
use Rattle.air_rules.specs.Owed.{IsFirstOwed, OwesNothing}
use Rattle.air_rules.specs.Rules.{MayCommit, MaySend, MayTake}

-- The first active aircraft that has fewer commits.
pub record IsFirstBehind (air : Air) (journal : List Entry) (own craft : ℕ) : Type 0 where
  pub active : is_active air craft ≡ true
  pub fewer : commits journal craft < commits journal own
  pub first : (before : ℕ) → before < craft → is_active air before ≡ true → commits journal own ≤ commits journal before

-- ---- commit

-- What hinders a commit, the first that does.
pub record IsOwing (air : Air) (journal : List Entry) (own target : ℕ) : Type 0 where
  pub left : commits journal own < air.cycles
  pub message : ResMsg
  pub first_owed : IsFirstOwed air journal own target message

pub record IsHeldByCopy (air : Air) (journal : List Entry) (own send copy : ℕ) : Type 0 where
  pub left : commits journal own < air.cycles
  pub owes_nothing : OwesNothing air journal own
  pub first_due : IsFirstDue air journal own send copy

pub record IsAhead (air : Air) (journal : List Entry) (own craft count : ℕ) : Type 0 where
  pub left : commits journal own < air.cycles
  pub owes_nothing : OwesNothing air journal own
  pub nothing_due : NothingDue air journal own
  pub first_behind : IsFirstBehind air journal own craft
  pub count_is : count ≡ commits journal craft

abbrev pub Hinders : Air → List Entry → ℕ → Commit → Type 0
Hinders air journal own commit.Over = commits journal own ≡ air.cycles
Hinders air journal own (commit.Owed target) = IsOwing air journal own target
Hinders air journal own (commit.Due send copy) = IsHeldByCopy air journal own send copy
Hinders air journal own (commit.Ahead craft count) = IsAhead air journal own craft count
Hinders air journal own (commit.Done position) = ⊥

-- Nothing hinders it.
pub record IsFree (air : Air) (journal : List Entry) (own : ℕ) : Type 0 where
  pub left : commits journal own < air.cycles
  pub owes_nothing : OwesNothing air journal own
  pub nothing_due : NothingDue air journal own
  pub not_ahead : (other : ℕ) → is_active air other ≡ true → commits journal own ≤ commits journal other

-- The entry that the rules allow was added, at this position.
pub record Committed (air : Air) (old : List Entry) (own : ℕ) (new : List Entry) (position : ℕ) : Type 0 where
  pub position_is : position ≡ length old
  pub cycle : ℕ
  pub cells : Cells
  pub allowed : MayCommit air old own cycle cells
  pub new_is : new ≡ entries.Commit own cycle cells ∷ old

pub record SentFirst (air : Air) (old : List Entry) (own : ℕ) (new : List Entry) (position : ℕ) : Type 0 where
  pub position_is : position ≡ length old
  pub target : ℕ
  pub number : ℕ
  pub word : ℕ
  pub allowed : MaySend air old own target number word
  pub new_is : new ≡ entries.Send own target number word ∷ old

pub record TookCopy (air : Air) (old : List Entry) (own send copy : ℕ) (new : List Entry) (position : ℕ) (good : Bool) : Type 0 where
  pub position_is : position ≡ length old
  pub allowed : MayTake air old own send copy good
  pub new_is : new ≡ entries.Take own send copy good ∷ old

pub record TookFirst (air : Air) (old : List Entry) (own : ℕ) (new : List Entry) (position : ℕ) (good : Bool) : Type 0 where
  pub send : ℕ
  pub copy : ℕ
  pub first : IsFirstDue air old own send copy
  pub took : TookCopy air old own send copy new position good

-- ---- the calls: after every answer but Done the journal is as before

abbrev pub Commits : Air → List Entry → ℕ → List Entry → Commit → Type 0
Commits air old own new commit.Over = Hinders air old own commit.Over × (new ≡ old)
Commits air old own new (commit.Owed target) = Hinders air old own (commit.Owed target) × (new ≡ old)
Commits air old own new (commit.Due send copy) = Hinders air old own (commit.Due send copy) × (new ≡ old)
Commits air old own new (commit.Ahead craft count) = Hinders air old own (commit.Ahead craft count) × (new ≡ old)
Commits air old own new (commit.Done position) = Committed air old own new position

abbrev pub Sends : Air → List Entry → ℕ → List Entry → Sent → Type 0
Sends air old own new (sent.Done position) = SentFirst air old own new position
Sends air old own new sent.Nothing = OwesNothing air old own × (new ≡ old)

abbrev pub Takes : Air → List Entry → ℕ → List Entry → Took → Type 0
Takes air old own new (took.Done position good) = TookFirst air old own new position good
Takes air old own new took.Nothing = NothingDue air old own × (new ≡ old)

abbrev pub TakesThis : Air → List Entry → ℕ → ℕ → ℕ → List Entry → TookThis → Type 0
TakesThis air old own send copy new (took_this.Done position good) = TookCopy air old own send copy new position good
TakesThis air old own send copy new took_this.NotDue = (is_due air old own send copy ≡ false) × (new ≡ old)
