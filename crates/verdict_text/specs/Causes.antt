-- Why an aircraft may not make an entry after a journal, and what a journal lacks. Each cause is said by the rules, and
-- comes only where those before it don't hold.
use Rattle.std.specs.Prelude.{◌≡◌, ◌≢◌, ℕ, ◌+◌, ◌<◌, ◌≤◌, true, false, List, length, Some, is_some}
use Rattle.acas_base.specs.declared.advisory.ResMsg.{ResMsg}
use Rattle.acas_base.specs.declared.entry.Entry.{Entry}
use Rattle.acas_base.specs.declared.link.CopyPlan.{CopyPlan}
use Rattle.air_journal.specs.Calls.{IsAhead, IsHeldByCopy, IsOwing}
use Rattle.air_rules.specs.Air.{Air, copy_plan, is_active}
use Rattle.air_rules.specs.Journal.{Sent, commits, entries_after, sent_at, was_taken}
use Rattle.air_rules.specs.Owed.{IsFirstOwed, OwesNothing}
use Rattle.air_rules.specs.Rules.{MayCommit, MaySend, MayTake, cells_for}
use Rattle.air_rules.specs.Takes.{read_copy}
use Rattle.verdict_text.specs.Searches.{AllCommitted, IsTakeAt, ReceivesNone}
use Rattle.verdict_text.specs.declared.causes.CommitCause.{CommitCause}
use Rattle.verdict_text.specs.declared.causes.CommitCause.TheVariants as commit
use Rattle.verdict_text.specs.declared.causes.Lack.{Lack}
use Rattle.verdict_text.specs.declared.causes.Lack.TheVariants as lack
use Rattle.verdict_text.specs.declared.causes.SendCause.{SendCause}
use Rattle.verdict_text.specs.declared.causes.SendCause.TheVariants as send
use Rattle.verdict_text.specs.declared.causes.TakeCause.{TakeCause}
use Rattle.verdict_text.specs.declared.causes.TakeCause.TheVariants as take

-- ---- commits

-- It has committed all cycles.
pub record IsOver (air : Air) (journal : List Entry) (own cycles : ℕ) : Type 0 where
  pub active : is_active air own ≡ true
  pub all : commits journal own ≡ air.cycles
  pub cycles_are : cycles ≡ air.cycles

-- Its next cycle is another one.
pub record IsOtherCycle (air : Air) (journal : List Entry) (own cycle next : ℕ) : Type 0 where
  pub active : is_active air own ≡ true
  pub left : commits journal own < air.cycles
  pub next_is : next ≡ commits journal own + 1
  pub other : cycle ≢ next

-- The cycle is its next one.
pub record IsNextCycle (air : Air) (journal : List Entry) (own cycle : ℕ) : Type 0 where
  pub active : is_active air own ≡ true
  pub left : commits journal own < air.cycles
  pub cycle_is : cycle ≡ commits journal own + 1

abbrev pub BarsCommit : Air → List Entry → ℕ → ℕ → CommitCause → Type 0
BarsCommit air journal own cycle commit.Inactive = is_active air own ≡ false
BarsCommit air journal own cycle (commit.Over cycles) = IsOver air journal own cycles
BarsCommit air journal own cycle (commit.OtherCycle next) = IsOtherCycle air journal own cycle next
BarsCommit air journal own cycle (commit.Owes target) = IsNextCycle air journal own cycle × IsOwing air journal own target
BarsCommit air journal own cycle (commit.Due send copy) = IsNextCycle air journal own cycle × IsHeldByCopy air journal own send copy
BarsCommit air journal own cycle (commit.Ahead other count) = IsNextCycle air journal own cycle × IsAhead air journal own other count

-- The commit of this cycle is allowed.
abbrev pub MayCommitNow : Air → List Entry → ℕ → ℕ → Type 0
MayCommitNow air journal own cycle = MayCommit air journal own cycle (cells_for air journal own)

-- ---- sends

-- The first aircraft that it owes a message is another one.
pub record OwesOther (air : Air) (journal : List Entry) (own target first : ℕ) : Type 0 where
  pub active : is_active air own ≡ true
  pub message : ResMsg
  pub first_owed : IsFirstOwed air journal own first message
  pub other : target ≢ first

abbrev pub BarsSend : Air → List Entry → ℕ → ℕ → SendCause → Type 0
BarsSend air journal own target send.Inactive = is_active air own ≡ false
BarsSend air journal own target send.OwesNobody = (is_active air own ≡ true) × OwesNothing air journal own
BarsSend air journal own target (send.OwesFirst first) = OwesOther air journal own target first

-- A send to this aircraft is allowed.
abbrev pub MaySendNow : Air → List Entry → ℕ → ℕ → Type 0
MaySendNow air journal own target = (number : ℕ) × (word : ℕ) × MaySend air journal own target number word

-- ---- takes

-- At the position a message was sent to it.
pub record IsToOwn (air : Air) (journal : List Entry) (own position : ℕ) (sent : Sent) : Type 0 where
  pub active : is_active air own ≡ true
  pub here : sent_at journal position ≡ Some sent
  pub receiver : sent.receiver ≡ own

-- How many copies a message has.
abbrev pub copies_of : Air → Sent → ℕ
copies_of air sent = length (air.copies sent.sender sent.receiver sent.number)

-- At the position no message was sent to it.
pub record HasNoMessage (air : Air) (journal : List Entry) (own position : ℕ) : Type 0 where
  pub active : is_active air own ≡ true
  pub none : ReceivesNone journal own position

-- The message has fewer copies.
pub record HasNoCopy (air : Air) (journal : List Entry) (own position copy copies : ℕ) : Type 0 where
  pub sent : Sent
  pub to_own : IsToOwn air journal own position sent
  pub copies_are : copies ≡ copies_of air sent
  pub past : copies ≤ copy

-- The copy was taken at a place of the journal.
pub record IsTaken (air : Air) (journal : List Entry) (own position copy place : ℕ) : Type 0 where
  pub sent : Sent
  pub to_own : IsToOwn air journal own position sent
  pub copy_is : copy < copies_of air sent
  pub taken : IsTakeAt journal own position copy place

-- The copy is held back: so many commits of the receiver are missing.
pub record IsHeldBack (air : Air) (journal : List Entry) (own position copy missing : ℕ) : Type 0 where
  pub sent : Sent
  pub to_own : IsToOwn air journal own position sent
  pub untaken : was_taken journal own position copy ≡ false
  pub plan : CopyPlan
  pub planned : copy_plan air sent copy ≡ Some plan
  pub hold_is : commits (entries_after journal position) own + missing ≡ plan.hold
  pub some : 0 < missing

abbrev pub BarsTake : Air → List Entry → ℕ → ℕ → ℕ → TakeCause → Type 0
BarsTake air journal own position copy take.Inactive = is_active air own ≡ false
BarsTake air journal own position copy take.NoMessage = HasNoMessage air journal own position
BarsTake air journal own position copy (take.NoCopy copies) = HasNoCopy air journal own position copy copies
BarsTake air journal own position copy (take.Taken place) = IsTaken air journal own position copy place
BarsTake air journal own position copy (take.Held missing) = IsHeldBack air journal own position copy missing

-- The take of this copy is allowed.
abbrev pub MayTakeNow : Air → List Entry → ℕ → ℕ → ℕ → Type 0
MayTakeNow air journal own position copy = MayTake air journal own position copy (is_some (read_copy air (sent_at journal position) copy))

-- ---- what is lacking

-- The first active aircraft with cycles left.
pub record LacksCommits (air : Air) (journal : List Entry) (own count cycles : ℕ) : Type 0 where
  pub active : is_active air own ≡ true
  pub count_is : count ≡ commits journal own
  pub cycles_are : cycles ≡ air.cycles
  pub fewer : count < cycles
  pub first : (before : ℕ) → before < own → is_active air before ≡ true → commits journal before ≡ air.cycles

-- The first sender and receiver where a message is owed. All cycles are committed.
pub record LacksMessage (air : Air) (journal : List Entry) (sender receiver : ℕ) : Type 0 where
  pub all : AllCommitted air journal
  pub active : is_active air sender ≡ true
  pub message : ResMsg
  pub first_owed : IsFirstOwed air journal sender receiver message
  pub first : (before : ℕ) → before < sender → is_active air before ≡ true → OwesNothing air journal before

abbrev pub Lacks : Air → List Entry → Lack → Type 0
Lacks air journal (lack.Commits own count cycles) = LacksCommits air journal own count cycles
Lacks air journal (lack.Message sender receiver) = LacksMessage air journal sender receiver
