-- What is kept of a journal that is read in order.
use Rattle.std.specs.Prelude.{◌≡◌, ℕ, ◌+◌, ◌-◌, ◌*◌, ◌<◌, ◌≤◌, ◌==◌, ◌&&◌, ◌||◌, not, nat_le, Bool, true, false, if◌then◌else◌, List, [], ◌∷◌, length, Option, Some, None, reverse, slice_index_or, take}
use Rattle.acas_base.specs.Encounter.{Parts}
use Rattle.acas_base.specs.Fates.{fate_of}
use Rattle.acas_base.specs.Ranges.{IsCycle}
use Rattle.acas_base.specs.declared.TheConstants.{CRAFTS}
use Rattle.acas_base.specs.declared.entry.Entry.{Entry}
use Rattle.acas_base.specs.declared.entry.Entry.TheVariants.{Commit, Send, Take}
use Rattle.air_journal.specs.Airs.{plans_of}
use Rattle.air_rules.specs.Journal.{Sent, sends, sent_at}
use Rattle.deliveries.specs.Mishaps.{is_held_back, is_message, was_sent}
use Rattle.deliveries.specs.declared.takes.Copies.{Copies}
use Rattle.deliveries.specs.declared.takes.Takes.{Takes}

-- The first `count` entries of a journal.
abbrev pub read_of : List Entry → ℕ → List Entry
read_of journal count = reverse (take count (reverse journal))

-- Where a message stands in a table.
abbrev pub message_slot : ℕ → ℕ → ℕ → ℕ
message_slot sender receiver number = (sender * CRAFTS + receiver) * 600 + (number - 1)

abbrev pub no_takes : Takes
no_takes = record { first = false; second = false; third = false; good = false }

-- One take more.
abbrev pub with_take : Takes → ℕ → Bool → Takes
with_take takes copy good = record {
  first = copy == 0 || takes.first;
  second = copy == 1 || takes.second;
  third = copy == 2 || takes.third;
  good = good || takes.good;
}

-- What the takes among some entries say of a message.
abbrev pub takes_by : (ℕ → Option Sent) → List Entry → ℕ → ℕ → ℕ → Takes
takes_by at [] sender receiver of_number = no_takes
takes_by at (Commit own cycle cells ∷ earlier) sender receiver of_number = takes_by at earlier sender receiver of_number
takes_by at (Send own target number word ∷ earlier) sender receiver of_number = takes_by at earlier sender receiver of_number
takes_by at (Take own send copy good ∷ earlier) sender receiver of_number =
    if is_message (at send) sender receiver of_number then with_take (takes_by at earlier sender receiver of_number) copy good else takes_by at earlier sender receiver of_number

-- What the first entries of a journal say of the messages of the first `count` aircraft.
pub record AreTakes (count : ℕ) (at : ℕ → Option Sent) (entries : List Entry) (takes : List Takes) : Type 0 where
  pub size : length takes ≡ count * 9600
  pub each : (sender receiver number : ℕ) → sender < count → receiver < CRAFTS → IsCycle number → slice_index_or takes (message_slot sender receiver number) no_takes ≡ takes_by at entries sender receiver number

-- What an encounter plans for the copies of a message.
abbrev pub copies_for : Parts → ℕ → ℕ → ℕ → Copies
copies_for e sender receiver number = record { count = (fate_of e sender receiver number).copies; held = is_held_back (plans_of e sender receiver number) }

abbrev pub no_copies : Copies
no_copies = record { count = 0; held = false }

-- The plans of the messages that were sent.
pub record AreCopies (e : Parts) (entries : List Entry) (copies : List Copies) : Type 0 where
  pub size : length copies ≡ length e.crafts * 9600
  pub each : (sender receiver number : ℕ) → sender < length e.crafts → receiver < CRAFTS → IsCycle number → was_sent entries sender receiver number ≡ true →
      slice_index_or copies (message_slot sender receiver number) no_copies ≡ copies_for e sender receiver number

-- How many messages were sent, by pair.
pub record AreSent (entries : List Entry) (sent : List ℕ) : Type 0 where
  pub size : length sent ≡ 256
  pub each : (sender receiver : ℕ) → sender < CRAFTS → receiver < CRAFTS → slice_index_or sent (sender * CRAFTS + receiver) 0 ≡ sends entries sender receiver

-- What the first `count` entries of the journal of an encounter say.
pub record AreNotes (e : Parts) (journal : List Entry) (count : ℕ) (copies : List Copies) (takes : List Takes) (sent : List ℕ) : Type 0 where
  pub copies_are : AreCopies e (read_of journal count) copies
  pub takes_are : AreTakes (length e.crafts) (sent_at journal) (read_of journal count) takes
  pub sent_are : AreSent (read_of journal count) sent

-- The message that was sent, with its parts in their ranges among `count` aircraft, stands here.
pub record IsSlotOf (count : ℕ) (found : Option Sent) (slot : ℕ) : Type 0 where
  pub sent : Sent
  pub is : found ≡ Some sent
  pub sender : sent.sender < count
  pub receiver : sent.receiver < count
  pub number : IsCycle sent.number
  pub slot_is : slot ≡ message_slot sent.sender sent.receiver sent.number

abbrev pub IsSlotFound : ℕ → Option Sent → Option ℕ → Type 0
IsSlotFound count found None = found ≡ None
IsSlotFound count found (Some slot) = IsSlotOf count found slot

abbrev pub some_copy : Takes → Bool
some_copy takes = takes.first || (takes.second || takes.third)

-- One of the first so many copies, at most three, wasn't taken.
abbrev pub some_left : Takes → ℕ → Bool
some_left takes copies = (nat_le 1 copies && not takes.first) || ((nat_le 2 copies && not takes.second) || (nat_le 3 copies && not takes.third))

-- An entry that sends a message of a journal of an encounter: its aircraft are there, and its number is one of those that
-- were sent.
abbrev pub IsEntryOf : Parts → List Entry → Entry → Type 0
IsEntryOf e journal (Commit own cycle cells) = Unit {0}
IsEntryOf e journal (Send own target number word) = (own < length e.crafts) × (target < length e.crafts) × (1 ≤ number) × (number ≤ sends journal own target)
IsEntryOf e journal (Take own send copy good) = Unit {0}
