-- What is kept beside a journal. Each kept thing is a function of the journal.
use Rattle.std.specs.Prelude.{◌≡◌, ◌≢◌, ℕ, ◌+◌, ◌*◌, ◌<◌, ◌≤◌, ◌&&◌, ◌==◌, Bool, true, false, not, if◌then◌else◌, List, [], ◌∷◌, ◌++◌, length, Option, Some, None, option_map, slice_index_or}
use Rattle.std.specs.List.{remove}
use Rattle.acas_base.specs.declared.TheConstants.{CRAFTS}
use Rattle.acas_base.specs.declared.advisory.Cell.{Cell}
use Rattle.acas_base.specs.declared.advisory.Cell.TheVariants.{Clear}
use Rattle.acas_base.specs.declared.advisory.Cells.{Cells}
use Rattle.acas_base.specs.declared.advisory.ResMsg.{ResMsg}
use Rattle.acas_base.specs.declared.advisory.Vrc.{Vrc}
use Rattle.acas_base.specs.declared.advisory.Vrc.TheVariants.{Nil}
use Rattle.acas_base.specs.declared.entry.Entry.{Entry}
use Rattle.acas_base.specs.declared.entry.Entry.TheVariants.{Commit, Send, Take}
use Rattle.acas_base.specs.declared.link.CopyPlan.{CopyPlan}
use Rattle.air_journal.specs.declared.kept.Complement.{Complement}
use Rattle.air_journal.specs.declared.kept.Link.{Link}
use Rattle.air_journal.specs.declared.kept.Made.{Made}
use Rattle.air_journal.specs.declared.kept.Waiting.{Waiting}
use Rattle.air_rules.specs.Air.{Air, is_ra}
use Rattle.air_rules.specs.Journal.{commits, sends, last_cell, has_sent, sent_at, cell_at}
use Rattle.air_rules.specs.Owed.{said, has_many_threats}
use Rattle.air_rules.specs.Takes.{Taken, last_take, is_from}

-- The copies of a queue, and for how many it has room.
pub record Queued : Type 0 where
  pub copies : List Waiting
  pub room : ℕ

-- What is kept of each aircraft, of each against each other one, and of the copies from each sender to each receiver.
pub record Kept : Type 0 where
  pub made : List Made
  pub links : List Link
  pub queues : List Queued

-- That of one aircraft, of one against another one, and of the copies from a sender to a receiver, by their indices.
abbrev pub no_link : Link
no_link = record { cell = Clear; said = Nil; sends = 0; sent = false; complement = None }

abbrev pub nothing_made : Made
nothing_made = record { commits = 0; many = false }

abbrev pub no_queue : Queued
no_queue = record { copies = []; room = 0 }

abbrev pub made_at : Kept → ℕ → Made
made_at kept own = slice_index_or kept.made own nothing_made

abbrev pub link_at : Kept → ℕ → ℕ → Link
link_at kept own other = slice_index_or kept.links (own * CRAFTS + other) no_link

abbrev pub queue_at : Kept → ℕ → ℕ → List Waiting
queue_at kept sender receiver = (slice_index_or kept.queues (sender * CRAFTS + receiver) no_queue).copies

abbrev pub room_at : Kept → ℕ → ℕ → ℕ
room_at kept sender receiver = (slice_index_or kept.queues (sender * CRAFTS + receiver) no_queue).room

-- ---- what each is of a journal

-- The complement of a message; none where there is no message.
abbrev pub vrc_of : Option ResMsg → Option Vrc
vrc_of message = option_map (λ (m : ResMsg). m.vrc) message

-- The complement that the taker of a copy of a word reads, by what flips and reads words; none where the copy is
-- spoilt.
abbrev pub read_as : (ℕ → ℕ → ℕ) → (ℕ → Option ResMsg) → ℕ → CopyPlan → Option Vrc
read_as flip read word plan = vrc_of (read (flip word plan.mask))

-- A copy of the message sent at a position, to a receiver that has made `made` commits, and what is read of it.
abbrev pub waiting_copy : (CopyPlan → Option Vrc) → ℕ → ℕ → ℕ → CopyPlan → Waiting
waiting_copy reads send made copy plan = record { send = send; copy = copy; due = made + plan.hold; reads = reads plan }

-- The copies of such a message, from one copy on.
abbrev pub copies_from : (CopyPlan → Option Vrc) → ℕ → ℕ → ℕ → List CopyPlan → List Waiting
copies_from reads send made copy [] = []
copies_from reads send made copy (plan ∷ plans) = waiting_copy reads send made copy plan ∷ copies_from reads send made (copy + 1) plans

abbrev pub is_copy : ℕ → ℕ → Waiting → Bool
is_copy send copy waiting = waiting.send == send && waiting.copy == copy

abbrev pub without : ℕ → ℕ → List Waiting → List Waiting
without send copy [] = []
without send copy (first ∷ rest) = if is_copy send copy first then without send copy rest else first ∷ without send copy rest

-- The copies of one aircraft's messages to another one that were sent and aren't taken yet, in order of position and
-- copy. A copy is due once its receiver has made the commits before the send and those for which it is held back.
abbrev pub waiting : Air → List Entry → ℕ → ℕ → List Waiting
waiting air [] sender receiver = []
waiting air (Commit own cycle cells ∷ earlier) sender receiver = waiting air earlier sender receiver
waiting air (Send own target number word ∷ earlier) sender receiver =
    if own == sender && target == receiver
    then waiting air earlier sender receiver ++ copies_from (read_as air.flip air.read word) (length earlier) (commits earlier receiver) 0 (air.copies sender receiver number)
    else waiting air earlier sender receiver
waiting air (Take own send copy good ∷ earlier) sender receiver =
    if own == receiver && is_from (sent_at earlier send) sender
    then without send copy (waiting air earlier sender receiver)
    else waiting air earlier sender receiver

abbrev pub complement_of : Option Taken → Option Complement
complement_of taken = option_map (λ (t : Taken). let c : Complement = record { vrc = t.vrc; commits = t.commits } in c) taken

abbrev pub link_of : Air → List Entry → ℕ → ℕ → Link
link_of air journal own other = record {
  cell = last_cell journal own other;
  said = said air journal own other;
  sends = sends journal own other;
  sent = has_sent journal own other;
  complement = complement_of (last_take air journal own other);
}

abbrev pub made_of : List Entry → ℕ → Made
made_of journal own = record { commits = commits journal own; many = has_many_threats journal own }

-- What is kept is what the journal says.
pub record IsKept (air : Air) (journal : List Entry) (kept : Kept) : Type 0 where
  pub made : (own : ℕ) → own < CRAFTS → made_at kept own ≡ made_of journal own
  pub link : (own other : ℕ) → own < CRAFTS → other < CRAFTS → link_at kept own other ≡ link_of air journal own other
  pub queue : (sender receiver : ℕ) → sender < CRAFTS → receiver < CRAFTS → queue_at kept sender receiver ≡ waiting air journal sender receiver

-- There is one of each aircraft, and of each ordered pair.
abbrev pub kept_in : List Made → List Link → List Queued → Kept
kept_in made links queues = record { made = made; links = links; queues = queues }

pub record AreTables (kept : Kept) : Type 0 where
  pub crafts : length kept.made ≡ CRAFTS
  pub pairs : length kept.links ≡ 256
  pub pairs_of_queues : length kept.queues ≡ 256

-- ---- the room of the queues

-- For how many copies a queue needs room: for three of a message in each cycle, where both aircraft are of kind RA; for
-- none elsewhere.
abbrev pub room_of : Air → ℕ → ℕ → ℕ
room_of air sender receiver = if is_ra air sender && (is_ra air receiver && not (sender == receiver)) then 3 * air.cycles else 0

abbrev pub HaveRoom : Air → Kept → Type 0
HaveRoom air kept = (sender receiver : ℕ) → sender < CRAFTS → receiver < CRAFTS → room_of air sender receiver ≤ room_at kept sender receiver

-- New queues, by their places.
pub record IsNewQueue (air : Air) (sender receiver : ℕ) (queue : Queued) : Type 0 where
  pub copies_are : queue.copies ≡ []
  pub room_is : room_of air sender receiver ≤ queue.room

pub record AreNewQueues (air : Air) (queues : List Queued) : Type 0 where
  pub size : length queues ≡ 256
  pub each : (sender receiver : ℕ) → sender < CRAFTS → receiver < CRAFTS → IsNewQueue air sender receiver (slice_index_or queues (sender * CRAFTS + receiver) no_queue)

-- ---- what each entry changes

pub record IsBlank (kept : Kept) : Type 0 where
  pub made : (own : ℕ) → own < CRAFTS → made_at kept own ≡ nothing_made
  pub link : (own other : ℕ) → own < CRAFTS → other < CRAFTS → link_at kept own other ≡ no_link
  pub queue : (sender receiver : ℕ) → sender < CRAFTS → receiver < CRAFTS → queue_at kept sender receiver ≡ []

abbrev pub sent_link : Link → Vrc → Link
sent_link link vrc = record { cell = link.cell; said = vrc; sends = link.sends + 1; sent = true; complement = link.complement }

abbrev pub taken_link : Link → Option Vrc → ℕ → Link
taken_link link None commits = link
taken_link link (Some vrc) commits = record {
  cell = link.cell;
  said = link.said;
  sends = link.sends;
  sent = link.sent;
  complement = Some (let c : Complement = record { vrc = vrc; commits = commits } in c);
}

abbrev pub committed_link : Link → Cell → Link
committed_link link cell = record { cell = cell; said = link.said; sends = link.sends; sent = false; complement = link.complement }

pub record AfterSend (old new : Kept) (own target : ℕ) (vrc : Vrc) (copies : List Waiting) : Type 0 where
  pub made : (a : ℕ) → a < CRAFTS → made_at new a ≡ made_at old a
  pub link : (a b : ℕ) → a < CRAFTS → b < CRAFTS → link_at new a b ≡ (if own == a && target == b then sent_link (link_at old a b) vrc else link_at old a b)
  pub queue : (a b : ℕ) → a < CRAFTS → b < CRAFTS → queue_at new a b ≡ (if own == a && target == b then queue_at old a b ++ copies else queue_at old a b)
  pub room : (a b : ℕ) → a < CRAFTS → b < CRAFTS → room_at new a b ≡ room_at old a b

pub record AfterTake (old new : Kept) (own sender place : ℕ) (reads : Option Vrc) : Type 0 where
  pub made : (a : ℕ) → a < CRAFTS → made_at new a ≡ made_at old a
  pub link : (a b : ℕ) → a < CRAFTS → b < CRAFTS → link_at new a b ≡ (if own == a && sender == b then taken_link (link_at old a b) reads (made_at old a).commits else link_at old a b)
  pub queue : (a b : ℕ) → a < CRAFTS → b < CRAFTS → queue_at new a b ≡ (if sender == a && own == b then remove (queue_at old a b) place else queue_at old a b)
  pub room : (a b : ℕ) → a < CRAFTS → b < CRAFTS → room_at new a b ≡ room_at old a b

pub record AfterCommit (old new : Kept) (own : ℕ) (cells : Cells) (many : Bool) : Type 0 where
  pub made : (a : ℕ) → a < CRAFTS → made_at new a ≡ (if own == a then (let m : Made = record { commits = (made_at old a).commits + 1; many = many } in m) else made_at old a)
  pub link : (a b : ℕ) → a < CRAFTS → b < CRAFTS → link_at new a b ≡ (if own == a then committed_link (link_at old a b) (cell_at cells b) else link_at old a b)
  pub queue : (a b : ℕ) → a < CRAFTS → b < CRAFTS → queue_at new a b ≡ queue_at old a b
  pub room : (a b : ℕ) → a < CRAFTS → b < CRAFTS → room_at new a b ≡ room_at old a b

-- Past the first `count` aircraft the row of an aircraft stays as it is by a commit of these cells.
abbrev pub IsSamePast : List Link → ℕ → Cells → ℕ → Type 0
IsSamePast links own cells count = (other : ℕ) → count ≤ other → other < CRAFTS
    → committed_link (slice_index_or links (own * CRAFTS + other) no_link) (cell_at cells other) ≡ slice_index_or links (own * CRAFTS + other) no_link

-- The row of an aircraft has these cells, and nothing was sent since.
pub record RowIs (old new : List Link) (own : ℕ) (cells : Cells) : Type 0 where
  pub size : length new ≡ 256
  pub row : (b : ℕ) → b < CRAFTS → slice_index_or new (own * CRAFTS + b) no_link ≡ committed_link (slice_index_or old (own * CRAFTS + b) no_link) (cell_at cells b)
  pub others : (a b : ℕ) → a < CRAFTS → b < CRAFTS → a ≢ own → slice_index_or new (a * CRAFTS + b) no_link ≡ slice_index_or old (a * CRAFTS + b) no_link
