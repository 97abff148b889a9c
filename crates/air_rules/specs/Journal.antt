-- The journal and what it says. A journal is the list of its entries, the newest first. In `entry ∷ earlier` the entry
-- comes after the journal `earlier`, and its position is the length of `earlier`. Entries name aircraft by their
-- indices.
use Rattle.std.specs.Prelude.{◌≡◌, ℕ, ◌+◌, Bool, true, false, ◌&&◌, if◌then◌else◌, ◌==◌, nat_lt, List, [], ◌∷◌, length, Option, Some, None, filter, slice_index_or}
use Rattle.std.specs.List.{list_any}
use Rattle.acas_base.specs.declared.advisory.Cell.{Cell}
use Rattle.acas_base.specs.declared.advisory.Cell.TheVariants.{Clear}
use Rattle.acas_base.specs.declared.advisory.Cells.{Cells}
use Rattle.acas_base.specs.declared.entry.Entry.{Entry}
use Rattle.acas_base.specs.declared.entry.Entry.TheVariants.{Commit, Send, Take}

-- The journal begins with an earlier one.
pub data Begins : List Entry → List Entry → Type 0 where
  whole : {journal : List Entry} → Begins journal journal
  more : {entry : Entry} {earlier journal : List Entry} → Begins earlier journal → Begins earlier (entry ∷ journal)

-- The aircraft that makes an entry.
abbrev pub owner_of : Entry → ℕ
owner_of (Commit own cycle cells) = own
owner_of (Send own target number word) = own
owner_of (Take own send copy good) = own

-- The entries that an aircraft makes.
abbrev pub entries_of : List Entry → ℕ → List Entry
entries_of journal own = filter (λ entry. owner_of entry == own) journal

-- Tests of an entry: whether it is a commit of an aircraft, a send of it to another one, or its take of a copy of a
-- message.
abbrev pub is_commit_of : ℕ → Entry → Bool
is_commit_of craft (Commit own cycle cells) = own == craft
is_commit_of craft (Send own target number word) = false
is_commit_of craft (Take own send copy good) = false

abbrev pub is_send_of : ℕ → ℕ → Entry → Bool
is_send_of craft other (Commit own cycle cells) = false
is_send_of craft other (Send own target number word) = own == craft && target == other
is_send_of craft other (Take own send copy good) = false

abbrev pub is_take_of : ℕ → ℕ → ℕ → Entry → Bool
is_take_of craft of_send of_copy (Commit own cycle cells) = false
is_take_of craft of_send of_copy (Send own target number word) = false
is_take_of craft of_send of_copy (Take own send copy good) = own == craft && (send == of_send && copy == of_copy)

-- How many entries pass a test.
abbrev pub count_of : (Entry → Bool) → List Entry → ℕ
count_of test [] = 0
count_of test (entry ∷ earlier) = if test entry then count_of test earlier + 1 else count_of test earlier

-- How many cycles an aircraft has committed.
abbrev pub commits : List Entry → ℕ → ℕ
commits journal own = count_of (is_commit_of own) journal

-- How many messages an aircraft has sent to another one.
abbrev pub sends : List Entry → ℕ → ℕ → ℕ
sends journal own target = count_of (is_send_of own target) journal

-- The aircraft has taken this copy of the message sent at this position.
abbrev pub was_taken : List Entry → ℕ → ℕ → ℕ → Bool
was_taken journal own send copy = list_any (is_take_of own send copy) journal

-- The cell of a commit for an aircraft.
abbrev pub cell_at : Cells → ℕ → Cell
cell_at cells other = slice_index_or cells.list other Clear

-- The journal before the last commit of an aircraft.
abbrev pub before_last_commit : List Entry → ℕ → List Entry
before_last_commit [] craft = []
before_last_commit (Commit own cycle cells ∷ earlier) craft = if own == craft then earlier else before_last_commit earlier craft
before_last_commit (Send own target number word ∷ earlier) craft = before_last_commit earlier craft
before_last_commit (Take own send copy good ∷ earlier) craft = before_last_commit earlier craft

-- The cell of an aircraft for another one in its last commit; Clear where it has none.
abbrev pub last_cell : List Entry → ℕ → ℕ → Cell
last_cell [] craft other = Clear
last_cell (Commit own cycle cells ∷ earlier) craft other = if own == craft then cell_at cells other else last_cell earlier craft other
last_cell (Send own target number word ∷ earlier) craft other = last_cell earlier craft other
last_cell (Take own send copy good ∷ earlier) craft other = last_cell earlier craft other

-- A message that was sent.
pub record Sent : Type 0 where
  pub sender : ℕ
  pub receiver : ℕ
  pub number : ℕ
  pub word : ℕ

abbrev pub as_sent : Entry → Option Sent
as_sent (Commit own cycle cells) = None
as_sent (Send own target number word) = Some (record { sender = own; receiver = target; number = number; word = word })
as_sent (Take own send copy good) = None

-- The message sent at a position, where one was.
abbrev pub sent_at : List Entry → ℕ → Option Sent
sent_at [] position = None
sent_at (entry ∷ earlier) position = if position == length earlier then as_sent entry else sent_at earlier position

-- At this position one aircraft sent this message to another one.
pub record WasSent (journal : List Entry) (position from to : ℕ) (sent : Sent) : Type 0 where
  pub here : sent_at journal position ≡ Some sent
  pub sender : sent.sender ≡ from
  pub receiver : sent.receiver ≡ to

-- The aircraft has sent a message to the other one since its last commit.
abbrev pub has_sent : List Entry → ℕ → ℕ → Bool
has_sent [] craft other = false
has_sent (Commit own cycle cells ∷ earlier) craft other = if own == craft then false else has_sent earlier craft other
has_sent (Send own target number word ∷ earlier) craft other = if own == craft && target == other then true else has_sent earlier craft other
has_sent (Take own send copy good ∷ earlier) craft other = has_sent earlier craft other

-- The entries after a position.
abbrev pub entries_after : List Entry → ℕ → List Entry
entries_after [] position = []
entries_after (entry ∷ earlier) position = if nat_lt position (length earlier) then entry ∷ entries_after earlier position else []
