-- Which copies are due to their receiver (this project's profile).
use Rattle.std.specs.Prelude.{◌≡◌, ℕ, ◌<◌, Bool, true, false, not, ◌&&◌, ◌==◌, nat_le, List, Option, Some, None}
use Rattle.acas_base.specs.declared.entry.Entry.{Entry}
use Rattle.acas_base.specs.declared.link.CopyPlan.{CopyPlan}
use Rattle.air_rules.specs.Air.{Air, is_active, copy_plan}
use Rattle.air_rules.specs.Journal.{Sent, sent_at, commits, entries_after, was_taken}

-- A copy is free once its receiver has made as many commits after the send as its hold. A copy that doesn't exist isn't
-- free.
abbrev pub is_free : Option CopyPlan → ℕ → Bool
is_free None made = false
is_free (Some plan) made = nat_le plan.hold made

abbrev pub is_copy_due : Air → List Entry → Option Sent → ℕ → ℕ → ℕ → Bool
is_copy_due air journal None own send copy = false
is_copy_due air journal (Some sent) own send copy =
    (sent.receiver == own) && (is_free (copy_plan air sent copy) (commits (entries_after journal send) own) && not (was_taken journal own send copy))

-- A copy of the message sent at a position is due to an aircraft: the message was sent to it, the copy isn't held back
-- any more, and it wasn't taken yet.
abbrev pub is_due : Air → List Entry → ℕ → ℕ → ℕ → Bool
is_due air journal own send copy = is_copy_due air journal (sent_at journal send) own send copy

-- The first copy that is due to an aircraft, by the position of its send and by its number.
pub record IsFirstDue (air : Air) (journal : List Entry) (own send copy : ℕ) : Type 0 where
  pub due : is_due air journal own send copy ≡ true
  pub first_send : (before : ℕ) → before < send → (copy : ℕ) → is_due air journal own before copy ≡ false
  pub first_copy : (before : ℕ) → before < copy → is_due air journal own send before ≡ false

abbrev pub NothingDue : Air → List Entry → ℕ → Type 0
NothingDue air journal own = (send copy : ℕ) → is_due air journal own send copy ≡ false

abbrev pub NobodyIsDue : Air → List Entry → Type 0
NobodyIsDue air journal = (own : ℕ) → is_active air own ≡ true → NothingDue air journal own
