-- What the picture says of a recording, and what holds of its text.
use Rattle.std.specs.Prelude.{◌≡◌, ◌≢◌, ◌⊎◌, ℕ, ◌+◌, ◌-◌, ◌<◌, ◌≤◌, ◌==◌, ◌&&◌, Bool, true, false, List, [], ◌∷◌, Some, filter, length, ℤ, ◌≤ℤ◌}
use Rattle.std.specs.List.{AllByRecursion}
use Rattle.acas_base.specs.Encounter.{Parts}
use Rattle.acas_base.specs.declared.advisory.Vrc.{Vrc}
use Rattle.acas_base.specs.declared.entry.Entry.{Entry}
use Rattle.acas_base.specs.declared.entry.Entry.TheVariants.{Send, Take}
use Rattle.advisory_report.specs.Composite.{word_of}
use Rattle.advisory_report.specs.Phrases.{is_clear}
use Rattle.air_journal.specs.Airs.{air_of}
use Rattle.air_rules.specs.Journal.{Begins, Sent, commits, sent_at}
use Rattle.air_rules.specs.Takes.{complement_from}
use Rattle.deliveries.specs.Laws.{IsRow}
use Rattle.deliveries.specs.Mishaps.{befallen_of}
use Rattle.deliveries.specs.declared.mishap.Mishap.{Mishap}
use Rattle.deliveries.specs.declared.rows.Row.{Row as MessageRow}
use Rattle.equal_rows.specs.Rows.{AreInOrder, IsCovered}
use Rattle.equal_rows.specs.declared.row.Row.{Row}
use Rattle.labels.specs.Labels.{LabelWords}
use Rattle.picture.specs.Heights.{HoldsModelled, HoldsPlanned, IsOn, altitude_y, axis_of}
use Rattle.journal_reader.specs.Reading.{read_of}
use Rattle.picture.specs.Layout.{page_bounds}
use Rattle.picture.specs.Messages.{arrows}
use Rattle.picture.specs.Marked.{IsMarked, mark_cycle}
use Rattle.picture.specs.MarkedDrawn.{has_letter, letter_of}
use Rattle.picture.specs.declared.marked.Marked.{Marked}
use Rattle.picture.specs.declared.messages_read.Arrow.{Arrow}
use Rattle.picture.specs.declared.mishaps.SentRow.{SentRow}
use Rattle.picture.specs.Picture.{below_of, lanes_of, picture_text, sections}
use Rattle.picture.specs.Shown.{is_alike, shown_in}
use Rattle.page_marks.specs.Within.{IsSectionWithin}
use Rattle.svg_text.specs.Xml.{IsDocument}

-- In all cycles of a row the aircraft has one word, which isn't CLEAR, and one corrective mark. The cycles before it
-- and after it have another one. Before cycle 1 it shows nothing.
pub record IsBar (journal : List Entry) (cycles own : ℕ) (row : Row) : Type 0 where
  pub begun : 1 ≤ row.first
  pub in_order : row.first ≤ row.last
  pub in_run : row.last ≤ cycles
  pub shown : (cycle : ℕ) → row.first ≤ cycle → cycle ≤ row.last → is_clear (shown_in journal own cycle) ≡ false
  pub word : (cycle : ℕ) → row.first ≤ cycle → cycle ≤ row.last → word_of (shown_in journal own cycle) ≡ word_of (shown_in journal own row.first)
  pub mark : (cycle : ℕ) → row.first ≤ cycle → cycle ≤ row.last → (shown_in journal own cycle).corrective ≡ (shown_in journal own row.first).corrective
  pub before : is_alike (shown_in journal own (row.first - 1)) (shown_in journal own row.first) ≡ false
  pub after : row.last < cycles → is_alike (shown_in journal own row.last) (shown_in journal own (row.last + 1)) ≡ false

-- The bars of an aircraft are its longest rows, in order, and no cycle in which it shows something has none.
pub record AreBars (journal : List Entry) (cycles own : ℕ) (rows : List Row) : Type 0 where
  pub each : AllByRecursion (IsBar journal cycles own) rows
  pub in_order : AreInOrder 0 rows
  pub all : (cycle : ℕ) → 1 ≤ cycle → cycle ≤ cycles → is_clear (shown_in journal own cycle) ≡ false → IsCovered rows cycle

-- The axis of altitudes holds each aircraft in each cycle, as planned and, of up to 8 aircraft, as modelled. A greater
-- altitude stands no lower than a less one.
pub record AreCourses (e : Parts) (journal : List Entry) : Type 0 where
  pub planned : HoldsPlanned (axis_of e journal) e
  pub modelled : length e.crafts ≤ 8 → HoldsModelled (axis_of e journal) e journal
  pub in_order : (low high : ℤ) → IsOn (axis_of e journal) low → IsOn (axis_of e journal) high → low ≤ℤ high → altitude_y (axis_of e journal) high ≤ altitude_y (axis_of e journal) low

-- An arrow stands for a take of a good copy after which another complement is in force on the taker from the sender
-- than before it. It names the message, where it was sent and taken, and the complement after the take.
pub record IsArrowOf (e : Parts) (journal : List Entry) (arrow : Arrow) : Type 0 where
  pub earlier : List Entry
  pub copy : ℕ
  pub sent : Sent
  pub there : Begins (Take arrow.taking.receiver arrow.taking.send copy true ∷ earlier) journal
  pub found : sent_at earlier arrow.taking.send ≡ Some sent
  pub sender : arrow.taking.sender ≡ sent.sender
  pub number : arrow.taking.number ≡ sent.number
  pub position : arrow.taking.take ≡ length earlier
  pub sent_after : arrow.sent_after ≡ commits (read_of journal arrow.taking.send) sent.sender
  pub taken_after : arrow.taking.taken_after ≡ commits earlier arrow.taking.receiver
  pub before : arrow.taking.before ≡ complement_from (air_of e) earlier arrow.taking.receiver sent.sender
  pub after : arrow.after ≡ complement_from (air_of e) (Take arrow.taking.receiver arrow.taking.send copy true ∷ earlier) arrow.taking.receiver sent.sender
  pub changes : arrow.taking.before ≢ arrow.after

-- The takes of the arrows come one after the other, from a position on.
abbrev pub AreRising : ℕ → List Arrow → Type 0
AreRising from [] = Unit {0}
AreRising from (arrow ∷ rest) = (from ≤ arrow.taking.take) × AreRising (arrow.taking.take + 1) rest

-- One of the arrows sets this complement on an aircraft from another one, by a take from one position on and before
-- another one.
pub record Sets (arrow : Arrow) (own other from to : ℕ) (vrc : Vrc) : Type 0 where
  pub receiver : arrow.taking.receiver ≡ own
  pub sender : arrow.taking.sender ≡ other
  pub low : from ≤ arrow.taking.take
  pub high : arrow.taking.take < to
  pub after : arrow.after ≡ vrc

abbrev pub SomeSets : List Arrow → ℕ → ℕ → ℕ → ℕ → Vrc → Type 0
SomeSets [] own other from to vrc = ⊥
SomeSets (arrow ∷ rest) own other from to vrc = Sets arrow own other from to vrc ⊎ SomeSets rest own other from to vrc

-- Each arrow stands for a take that changes what is in force, and no take has two. Where what is in force on an
-- aircraft from another one changes from one place of the journal to a later one, and it commits nothing between them,
-- an arrow between them sets what is in force at the later one. So each take that changes it has its arrow; and where an
-- aircraft obeys a complement that wasn't in force at its last commit, an arrow between the two commits sets it.
pub record AreArrows (e : Parts) (journal : List Entry) : Type 0 where
  pub each : AllByRecursion (IsArrowOf e journal) (arrows e journal)
  pub in_order : AreRising 0 (arrows e journal)
  pub all : (earlier later : List Entry) (own other : ℕ) → Begins earlier later → Begins later journal → commits earlier own ≡ commits later own →
      complement_from (air_of e) earlier own other ≢ complement_from (air_of e) later own other → SomeSets (arrows e journal) own other (length earlier) (length later) (complement_from (air_of e) later own other)

-- A row stands for a maximal row of messages of one aircraft to another one that this befell. The journal sends the
-- first of them after so many commits of the sender.
pub record IsSentRowOf (e : Parts) (journal : List Entry) (mishap : Mishap) (sent : SentRow) : Type 0 where
  pub maximal : IsRow (befallen_of e journal mishap sent.sender sent.receiver) sent.row
  pub earlier : List Entry
  pub word : ℕ
  pub there : Begins (Send sent.sender sent.receiver sent.row.first word ∷ earlier) journal
  pub sent_after : sent.sent_after ≡ commits earlier sent.sender

-- It is this row of these two aircraft.
abbrev pub is_for : ℕ → ℕ → MessageRow → SentRow → Bool
is_for sender receiver row sent = sent.sender == sender && (sent.receiver == receiver && (sent.row.first == row.first && sent.row.last == row.last))

-- Each of the rows is such a row, and each maximal row is exactly one of them.
pub record AreSentRows (e : Parts) (journal : List Entry) (mishap : Mishap) (rows : List SentRow) : Type 0 where
  pub each : AllByRecursion (IsSentRowOf e journal mishap) rows
  pub once : (sender receiver : ℕ) (row : MessageRow) → IsRow (befallen_of e journal mishap sender receiver) row → length (filter (is_for sender receiver row) rows) ≡ 1

-- The places of marks in the list come one after the other, from a place on.
abbrev pub ArePlaced : ℕ → List Marked → Type 0
ArePlaced from [] = Unit {0}
ArePlaced from (marked ∷ rest) = (from ≤ marked.place) × ArePlaced (marked.place + 1) rest

abbrev pub is_at : ℕ → Marked → Bool
is_at place marked = marked.place == place

-- Two letters stand beside each other.
abbrev pub AreBeside : ℕ → ℕ → Type 0
AreBeside one other = (one + 180 ≤ other) ⊎ (other + 180 ≤ one)

-- Each mark that is drawn stands in the list, and has the cycle that its word tells, which is one of the run. They come
-- in the order of the list, and each mark of the list with such a cycle is exactly one of them. Letters of one cycle
-- stand beside each other, and a letter that is drawn stands beside those of all earlier marks.
pub record AreMarked (it : LabelWords) (cycles : ℕ) (marks : List Marked) : Type 0 where
  pub each : AllByRecursion (IsMarked it cycles) marks
  pub in_order : ArePlaced 0 marks
  pub once : (place : ℕ) → place < length it.marks → 1 ≤ mark_cycle it place → mark_cycle it place ≤ cycles → length (filter (is_at place) marks) ≡ 1
  pub apart : (one other : Marked) → IsMarked it cycles one → IsMarked it cycles other → length it.marks ≤ 26 → one.cycle ≡ other.cycle → one.place < other.place → AreBeside (letter_of it cycles one) (letter_of it cycles other)
  pub drawn : (one other : Marked) → IsMarked it cycles one → one.place < other.place → has_letter it cycles other ≡ true → AreBeside (letter_of it cycles one) (letter_of it cycles other)

-- All marks lie within the page, and the text is well formed.
pub record IsSound (it : LabelWords) (e : Parts) (journal : List Entry) : Type 0 where
  pub within : AllByRecursion (IsSectionWithin (page_bounds (lanes_of e) (below_of it e))) (sections it e journal)
  pub formed : IsDocument (picture_text it e journal)
