-- The messages of two journals. A message is told by its sender, its receiver and its number, wherever it stands.
use Rattle.std.specs.Prelude.{◌≡◌, ℕ, ◌-◌, ◌+◌, ◌*◌, ◌<◌, ◌≤◌, Bool, false, ◌&&◌, ◌==◌, if◌then◌else◌, List, [], ◌∷◌, length, Option, Some, None, slice_index_or}
use Rattle.acas_base.specs.Ranges.{IsCycle}
use Rattle.acas_base.specs.declared.TheConstants.{CRAFTS}
use Rattle.acas_base.specs.declared.entry.Entry.{Entry}
use Rattle.acas_base.specs.declared.entry.Entry.TheVariants.{Commit, Send, Take}
use Rattle.air_rules.specs.Journal.{Sent, sent_at}

-- The word of a message; none where it wasn't sent.
abbrev pub word_in : List Entry → ℕ → ℕ → ℕ → Option ℕ
word_in [] sender receiver of_number = None
word_in (Commit own cycle cells ∷ earlier) sender receiver of_number = word_in earlier sender receiver of_number
word_in (Send own target number word ∷ earlier) sender receiver of_number =
    if own == sender && (target == receiver && number == of_number) then Some word else word_in earlier sender receiver of_number
word_in (Take own send copy good ∷ earlier) sender receiver of_number = word_in earlier sender receiver of_number

-- The message that was sent is this one.
abbrev pub is_message : Option Sent → ℕ → ℕ → ℕ → Bool
is_message None sender receiver of_number = false
is_message (Some sent) sender receiver of_number = sent.sender == sender && (sent.receiver == receiver && sent.number == of_number)

-- Whether a copy of a message was good, by the entries that took it; none where it wasn't taken. A take names a send by
-- its position, at which `at` says what was sent.
abbrev pub result_by : (ℕ → Option Sent) → List Entry → ℕ → ℕ → ℕ → ℕ → Option Bool
result_by at [] sender receiver of_number of_copy = None
result_by at (Commit own cycle cells ∷ earlier) sender receiver of_number of_copy = result_by at earlier sender receiver of_number of_copy
result_by at (Send own target number word ∷ earlier) sender receiver of_number of_copy = result_by at earlier sender receiver of_number of_copy
result_by at (Take own send copy good ∷ earlier) sender receiver of_number of_copy =
    if copy == of_copy && is_message (at send) sender receiver of_number then Some good else result_by at earlier sender receiver of_number of_copy

abbrev pub result_in : List Entry → ℕ → ℕ → ℕ → ℕ → Option Bool
result_in journal sender receiver of_number of_copy = result_by (sent_at journal) journal sender receiver of_number of_copy

-- Each message has the same word in both journals, and each copy the same take.
pub record AreSameMessages (journal another : List Entry) : Type 0 where
  pub words : (sender receiver number : ℕ) → sender < CRAFTS → receiver < CRAFTS → IsCycle number → word_in journal sender receiver number ≡ word_in another sender receiver number
  pub results : (sender receiver number copy : ℕ) → sender < CRAFTS → receiver < CRAFTS → IsCycle number → copy ≤ 2 →
      result_in journal sender receiver number copy ≡ result_in another sender receiver number copy

-- ---- tables

-- Where a message stands in a table, and where a copy of it does.
abbrev pub message_slot : ℕ → ℕ → ℕ → ℕ
message_slot sender receiver number = (sender * CRAFTS + receiver) * 600 + (number - 1)

abbrev pub copy_slot : ℕ → ℕ → ℕ
copy_slot slot copy = slot * 3 + copy

-- What the entries say of each message, where a take names its send by what was sent at its position.
pub record AreTables (at : ℕ → Option Sent) (entries : List Entry) (words : List (Option ℕ)) (results : List (Option Bool)) : Type 0 where
  pub messages : length words ≡ 153600
  pub copies : length results ≡ 460800
  pub word : (sender receiver number : ℕ) → sender < CRAFTS → receiver < CRAFTS → IsCycle number → slice_index_or words (message_slot sender receiver number) None ≡ word_in entries sender receiver number
  pub result : (sender receiver number copy : ℕ) → sender < CRAFTS → receiver < CRAFTS → IsCycle number → copy ≤ 2 →
      slice_index_or results (copy_slot (message_slot sender receiver number) copy) None ≡ result_by at entries sender receiver number copy

-- What an entry sends has its parts in their ranges.
abbrev pub IsSentFit : Entry → Type 0
IsSentFit (Commit own cycle cells) = Unit {0}
IsSentFit (Send own target number word) = (own < CRAFTS) × (target < CRAFTS) × IsCycle number
IsSentFit (Take own send copy good) = Unit {0}

-- The message that was sent, with its parts in their ranges, stands here.
pub record IsSlotOf (found : Option Sent) (slot : ℕ) : Type 0 where
  pub sent : Sent
  pub is : found ≡ Some sent
  pub sender : sent.sender < CRAFTS
  pub receiver : sent.receiver < CRAFTS
  pub number : IsCycle sent.number
  pub slot_is : slot ≡ message_slot sent.sender sent.receiver sent.number

abbrev pub IsSlotFound : Option Sent → Option ℕ → Type 0
IsSlotFound found None = found ≡ None
IsSlotFound found (Some slot) = IsSlotOf found slot
