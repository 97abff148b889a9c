-- What the searches for a cause find.
use Rattle.std.specs.Prelude.{◌≡◌, ◌≢◌, ℕ, Bool, true, List, reverse, slice_get, Some}
use Rattle.acas_base.specs.declared.entry.Entry.{Entry}
use Rattle.acas_base.specs.declared.entry.Entry.TheVariants as entries
use Rattle.air_journal.specs.Queues.{IsIn}
use Rattle.air_journal.specs.declared.kept.Waiting.{Waiting}
use Rattle.air_rules.specs.Air.{Air, is_active}
use Rattle.air_rules.specs.Journal.{Sent, commits, sent_at}
use Rattle.air_rules.specs.Owed.{OwesNothing}

-- It owes nobody, and nothing was sent.
abbrev pub SentNothing : Air → List Entry → List Entry → ℕ → Type 0
SentNothing air old new own = OwesNothing air old own × (new ≡ old)

-- All active aircraft have committed all cycles.
abbrev pub AllCommitted : Air → List Entry → Type 0
AllCommitted air journal = (own : ℕ) → is_active air own ≡ true → commits journal own ≡ air.cycles

-- At the position no message was sent to this aircraft.
abbrev pub ReceivesNone : List Entry → ℕ → ℕ → Type 0
ReceivesNone journal own position = (sent : Sent) → sent_at journal position ≡ Some sent → sent.receiver ≢ own

-- At the position this sender sent it a message of this number.
pub record Receives (journal : List Entry) (own position sender number : ℕ) : Type 0 where
  pub sent : Sent
  pub here : sent_at journal position ≡ Some sent
  pub receiver : sent.receiver ≡ own
  pub sender_is : sent.sender ≡ sender
  pub number_is : sent.number ≡ number

-- At a place of the journal the aircraft took the copy.
abbrev pub IsTakeAt : List Entry → ℕ → ℕ → ℕ → ℕ → Type 0
IsTakeAt journal own position copy place = (good : Bool) × (slice_get (reverse journal) place ≡ Some (entries.Take own position copy good))

-- No copy that waits is this one.
abbrev pub NoneWaits : List Waiting → ℕ → ℕ → Type 0
NoneWaits queue position copy = (waiting : Waiting) → IsIn waiting queue → waiting.send ≡ position → waiting.copy ≢ copy

-- The copy waits until its receiver has made this many commits.
pub record WaitsUntil (queue : List Waiting) (position copy due : ℕ) : Type 0 where
  pub waiting : Waiting
  pub is_in : IsIn waiting queue
  pub send_is : waiting.send ≡ position
  pub copy_is : waiting.copy ≡ copy
  pub due_is : waiting.due ≡ due
