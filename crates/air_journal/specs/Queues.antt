-- What a queue of copies says.
use Rattle.std.specs.Prelude.{◌≡◌, ◌⊎◌, ℕ, ◌+◌, ◌<◌, ◌≤◌, false, List, [], ◌∷◌, take, Some, slice_get}
use Rattle.acas_base.specs.declared.entry.Entry.{Entry}
use Rattle.acas_base.specs.declared.link.CopyPlan.{CopyPlan}
use Rattle.air_journal.specs.Kept.{read_as}
use Rattle.air_journal.specs.declared.kept.Waiting.{Waiting}
use Rattle.air_rules.specs.Air.{Air, copy_plan}
use Rattle.air_rules.specs.Journal.{Sent, WasSent, commits, entries_after, was_taken}

-- A copy stands in a list.
abbrev pub IsIn : Waiting → List Waiting → Type 0
IsIn waiting [] = ⊥
IsIn waiting (first ∷ rest) = (waiting ≡ first) ⊎ IsIn waiting rest

-- A copy of a message of one aircraft to another one that was sent and isn't taken yet. It is due as soon as the
-- receiver has made, after the send, the commits for which it is held back, and is read by its plan then.
pub record IsWaiting (air : Air) (journal : List Entry) (sender receiver : ℕ) (waiting : Waiting) : Type 0 where
  pub sent : Sent
  pub from : WasSent journal waiting.send sender receiver sent
  pub plan : CopyPlan
  pub planned : copy_plan air sent waiting.copy ≡ Some plan
  pub reads_is : waiting.reads ≡ read_as air.flip air.read sent.word plan
  pub due_is : waiting.due + commits (entries_after journal waiting.send) receiver ≡ commits journal receiver + plan.hold
  pub untaken : was_taken journal receiver waiting.send waiting.copy ≡ false

-- One copy comes before another one, by the position of its send and by its number.
abbrev pub IsBefore : Waiting → Waiting → Type 0
IsBefore one other = (one.send < other.send) ⊎ ((one.send ≡ other.send) × (one.copy < other.copy))

abbrev pub AreOrdered : List Waiting → Type 0
AreOrdered [] = Unit {0}
AreOrdered (first ∷ rest) = ((waiting : Waiting) → IsIn waiting rest → IsBefore first waiting) × AreOrdered rest

-- The queue of a sender to a receiver has exactly the copies that wait, in order.
pub record IsQueue (air : Air) (journal : List Entry) (sender receiver : ℕ) (queue : List Waiting) : Type 0 where
  pub ordered : AreOrdered queue
  pub holds : (waiting : Waiting) → IsIn waiting queue → IsWaiting air journal sender receiver waiting
  pub whole : (waiting : Waiting) → IsWaiting air journal sender receiver waiting → IsIn waiting queue

-- None of them is due after `made` commits.
abbrev pub NoneDue : List Waiting → ℕ → Type 0
NoneDue queue made = (waiting : Waiting) → IsIn waiting queue → made < waiting.due

-- The first one that is due stands at this place.
pub record IsFirstDueAt (queue : List Waiting) (made place : ℕ) (waiting : Waiting) : Type 0 where
  pub here : slice_get queue place ≡ Some waiting
  pub in_time : waiting.due ≤ made
  pub first : NoneDue (take place queue) made
