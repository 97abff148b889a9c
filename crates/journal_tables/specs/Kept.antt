-- The takes of all copies, which are kept before the first line is told.
use Rattle.std.specs.Prelude.{◌≡◌, ◌≢◌, ℕ, ◌+◌, ◌-◌, ◌*◌, ◌<◌, List, Option, Some, None, length, option_map, slice_index_or}
use Rattle.std.specs.Option.{option_or}
use Rattle.acas_base.specs.declared.TheConstants.{CRAFTS}
use Rattle.acas_base.specs.declared.entry.Entry.{Entry}
use Rattle.acas_base.specs.declared.entry.Entry.TheVariants.{Commit, Send, Take}
use Rattle.air_journal.specs.Airs.{air_of}
use Rattle.air_journal.specs.States.{State}
use Rattle.air_rules.specs.Journal.{Sent, sent_at}
use Rattle.journal_tables.specs.Messages.{take_of}
use Rattle.journal_tables.specs.declared.takes.CopyTake.{CopyTake}
use Rattle.journal_tables.specs.declared.takes.MessageCopy.{MessageCopy}

-- A copy of a message.
abbrev pub copy_of : Sent → ℕ → MessageCopy
copy_of sent copy = record { way = record { sender = sent.sender; receiver = sent.receiver }; number = sent.number; copy = copy }

-- The copy that an entry takes, where `at` says what was sent at a position.
abbrev pub copy_taken : (ℕ → Option Sent) → Entry → Option MessageCopy
copy_taken at (Commit own cycle cells) = None
copy_taken at (Send own target number word) = None
copy_taken at (Take own send copy good) = option_map (λ (sent : Sent). copy_of sent copy) (at send)

-- Where the take of a copy is kept.
abbrev pub place_of : MessageCopy → ℕ
place_of it = ((it.way.sender * CRAFTS + it.way.receiver) * 600 + (it.number - 1)) * 3 + it.copy

abbrev pub take_at : List (Option CopyTake) → ℕ → Option CopyTake
take_at takes place = slice_index_or takes place None

-- One take more is kept, where there was none.
pub record IsWith (old new : List (Option CopyTake)) (place : ℕ) (take : CopyTake) : Type 0 where
  pub size : length new ≡ length old
  pub here : take_at new place ≡ option_or (take_at old place) (Some take)
  pub others : (other : ℕ) → other ≢ place → take_at new other ≡ take_at old other

-- What is kept of each copy of each message of a journal is its take by the entries that were read; none where they
-- have none.
pub record AreTakes (state : State) (read : List Entry) (takes : List (Option CopyTake)) : Type 0 where
  pub size : length takes ≡ length state.encounter.crafts * 28800
  pub each : (send copy : ℕ) (sent : Sent) → sent_at state.journal send ≡ Some sent → copy < 3 →
      take_at takes (place_of (copy_of sent copy)) ≡ take_of (air_of state.encounter) read sent.sender sent.receiver send copy
