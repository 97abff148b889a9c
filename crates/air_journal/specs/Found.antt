-- What is found in the tables.
use Rattle.std.specs.Prelude.{◌≡◌, ℕ, ◌+◌, ◌<◌, ◌≤◌, true, not, ◌&&◌, ◌==◌, if◌then◌else◌, nat_le, nat_lt, List, length, Option, Some, None, option_map, slice_get, slice_index_or}
use Rattle.acas_base.specs.Complements.{in_force}
use Rattle.acas_base.specs.Messages.{message_for}
use Rattle.acas_base.specs.Next.{following_cell}
use Rattle.acas_base.specs.declared.TheConstants.{CRAFTS}
use Rattle.acas_base.specs.declared.advisory.Cell.{Cell}
use Rattle.acas_base.specs.declared.advisory.Cell.TheVariants.{Clear}
use Rattle.acas_base.specs.declared.advisory.Cells.{Cells}
use Rattle.acas_base.specs.declared.advisory.ResMsg.{ResMsg}
use Rattle.acas_base.specs.declared.advisory.Vrc.{Vrc}
use Rattle.acas_base.specs.declared.advisory.Vrc.TheVariants.{Nil}
use Rattle.acas_base.specs.declared.entry.Entry.{Entry}
use Rattle.air_journal.specs.Kept.{Kept, link_at, made_at, queue_at, waiting}
use Rattle.air_journal.specs.Queues.{NoneDue, IsFirstDueAt, IsIn}
use Rattle.air_journal.specs.declared.due.Due.{Due}
use Rattle.air_journal.specs.declared.due.Found.{Found}
use Rattle.air_journal.specs.declared.kept.Complement.{Complement}
use Rattle.air_journal.specs.declared.kept.Link.{Link}
use Rattle.air_journal.specs.declared.kept.Made.{Made}
use Rattle.air_journal.specs.declared.kept.Waiting.{Waiting}
use Rattle.air_journal.specs.declared.pace.Behind.{Behind}
use Rattle.air_rules.specs.Air.{Air, is_active, is_ra, rank_of}
use Rattle.air_rules.specs.Journal.{Sent, commits, sent_at}

-- ---- what is owed

-- The message that an aircraft owes another one.
abbrev pub owed_by : Air → ℕ → ℕ → Link → Made → Option ResMsg
owed_by air own other link made =
    if is_ra air own && (is_ra air other && (not (own == other) && not link.sent))
    then message_for link.cell link.said made.many (air.address own)
    else None

abbrev pub owed_in : Air → Kept → ℕ → ℕ → Option ResMsg
owed_in air kept own other = owed_by air own other (link_at kept own other) (made_at kept own)

-- Nothing is owed to the first `count` aircraft.
abbrev pub NothingOwedBy : Air → Kept → ℕ → ℕ → Type 0
NothingOwedBy air kept own count = (other : ℕ) → other < count → owed_in air kept own other ≡ None

pub record IsFirstOwedBy (air : Air) (kept : Kept) (own other : ℕ) (message : ResMsg) : Type 0 where
  pub below : other < air.count
  pub owes : owed_in air kept own other ≡ Some message
  pub first : NothingOwedBy air kept own other

-- ---- what is due

-- No queue of the first `count` senders to this aircraft has a copy that is due.
abbrev pub NoneOf : Kept → ℕ → ℕ → ℕ → Type 0
NoneOf kept own made count = (sender : ℕ) → sender < count → NoneDue (queue_at kept sender own) made

-- The first due copy of the queues of the first `count` senders.
pub record IsLeast (kept : Kept) (own made count : ℕ) (found : Found) : Type 0 where
  pub sender : found.sender < count
  pub place : IsFirstDueAt (queue_at kept found.sender own) made found.place found.waiting
  pub least : (sender : ℕ) → sender < count → (other : Waiting) → IsIn other (queue_at kept sender own) → other.due ≤ made → found.waiting.send ≤ other.send

abbrev pub found_as : ℕ → Due → Found
found_as sender due = record { sender = sender; place = due.place; waiting = due.waiting }

-- The one of the earlier send.
abbrev pub earlier : Option Found → ℕ → Option Due → Option Found
earlier None sender None = None
earlier (Some best) sender None = Some best
earlier None sender (Some due) = Some (found_as sender due)
earlier (Some best) sender (Some due) = if nat_le best.waiting.send due.waiting.send then Some best else Some (found_as sender due)

-- This copy isn't due in the queue.
abbrev pub NotDueIn : List Waiting → ℕ → ℕ → ℕ → Type 0
NotDueIn queue made send copy = (waiting : Waiting) → IsIn waiting queue → waiting.send ≡ send → waiting.copy ≡ copy → made < waiting.due

-- It is due, and stands at a place of the queue.
pub record IsDueIn (queue : List Waiting) (made send copy : ℕ) (due : Due) : Type 0 where
  pub here : slice_get queue due.place ≡ Some due.waiting
  pub send_is : due.waiting.send ≡ send
  pub copy_is : due.waiting.copy ≡ copy
  pub in_time : due.waiting.due ≤ made

-- Who sent the message at a position.
abbrev pub sender_at : List Entry → ℕ → Option ℕ
sender_at journal position = option_map (λ (sent : Sent). sent.sender) (sent_at journal position)

-- The copies that wait for an aircraft from each of the first `count` senders are of messages that this one sent.
abbrev pub AreOfTheirSenders : List Entry → Kept → ℕ → ℕ → Type 0
AreOfTheirSenders journal kept own count = (sender : ℕ) (waiting : Waiting) → sender < count → IsIn waiting (queue_at kept sender own) → sender_at journal waiting.send ≡ Some sender

abbrev pub NotDueInAny : Kept → ℕ → ℕ → ℕ → ℕ → ℕ → Type 0
NotDueInAny kept own made send copy count = (sender : ℕ) → sender < count → NotDueIn (queue_at kept sender own) made send copy

pub record IsDueInOne (kept : Kept) (own made send copy count : ℕ) (found : Found) : Type 0 where
  pub sender : found.sender < count
  pub place : IsDueIn (queue_at kept found.sender own) made send copy (let d : Due = record { place = found.place; waiting = found.waiting } in d)

-- What was found waits at its place, and is due.
pub record WaitsAt (air : Air) (journal : List Entry) (own : ℕ) (found : Found) : Type 0 where
  pub sender : found.sender < air.count
  pub here : slice_get (waiting air journal found.sender own) found.place ≡ Some found.waiting
  pub in_time : found.waiting.due ≤ commits journal own

-- ---- who is behind

-- None of the first `count` active aircraft has fewer commits than this.
abbrev pub NobodyBehind : Air → Kept → ℕ → ℕ → Type 0
NobodyBehind air kept made count = (other : ℕ) → other < count → is_active air other ≡ true → made ≤ (made_at kept other).commits

pub record IsFirstBehindBy (air : Air) (kept : Kept) (made : ℕ) (behind : Behind) : Type 0 where
  pub below : behind.craft < air.count
  pub active : is_active air behind.craft ≡ true
  pub count : behind.commits ≡ (made_at kept behind.craft).commits
  pub fewer : behind.commits < made
  pub first : NobodyBehind air kept made behind.craft

-- ---- the next cells

-- What is in force of the complement that is kept, once its taker has made `made` commits.
abbrev pub kept_in_force : Option Complement → ℕ → Vrc
kept_in_force None made = Nil
kept_in_force (Some taken) made = in_force taken.vrc taken.commits made

-- The next cell of an aircraft for another one.
abbrev pub next_by : Air → ℕ → ℕ → Link → Made → Cell
next_by air own other link made =
    if nat_lt other air.count && not (own == other)
    then following_cell link.cell (air.view own other (made.commits + 1)) (kept_in_force link.complement made.commits) (rank_of air own other)
    else Clear

abbrev pub next_in : Air → Kept → ℕ → ℕ → Cell
next_in air kept own other = next_by air own other (link_at kept own other) (made_at kept own)

pub record AreNext (air : Air) (kept : Kept) (own : ℕ) (cells : Cells) : Type 0 where
  pub size : length cells.list ≡ CRAFTS
  pub each : (other : ℕ) → other < CRAFTS → slice_index_or cells.list other Clear ≡ next_in air kept own other
