-- What a reason says follows from what was on board: from what own aircraft saw, and from the messages that it took.
use Rattle.std.specs.Prelude.{◌≡◌, ◌≢◌, ℕ, ◌+◌, ◌<◌, ◌==◌, ◌&&◌, true, if◌then◌else◌, List, [], ◌∷◌, length, Option, Some, None, option_map}
use Rattle.acas_base.specs.Encounter.{IsEncounter, Parts}
use Rattle.acas_base.specs.declared.advisory.Cells.{Cells}
use Rattle.acas_base.specs.declared.advisory.Vrc.{Vrc}
use Rattle.acas_base.specs.declared.entry.Entry.{Entry}
use Rattle.acas_base.specs.declared.entry.Entry.TheVariants.{Commit, Send, Take}
use Rattle.air_journal.specs.Airs.{air_of}
use Rattle.air_rules.specs.Air.{Air}
use Rattle.air_rules.specs.Journal.{Begins, Sent, commits, sent_at}
use Rattle.air_rules.specs.Rules.{IsLegal}
use Rattle.air_rules.specs.Takes.{complement_read, is_from, lapse, read_copy}
use Rattle.craft_view.specs.Facts.{SeesAlike}
use Rattle.reasons.specs.Reasons.{reason_of}
use Rattle.reasons.specs.declared.reason.Reason.{Reason}
use Rattle.reasons.specs.declared.told.Told.{Told}

-- ---- what was heard

-- An aircraft committed itself, or took a message of another one unspoilt, which put a complement in force.
pub data Heard : Type 0 where
  committed : Heard
  told : (sender : ℕ) (complement : Vrc) → Heard

abbrev pub with_message : Air → Option Sent → ℕ → List Heard → List Heard
with_message air None copy heard = heard
with_message air (Some sent) copy heard = told sent.sender (complement_read (read_copy air (Some sent) copy)) ∷ heard

-- What an aircraft has heard in a journal, the newest first: its own commits and its own good takes, and of these who
-- sent the message and what it reads as. What others entered isn't in it, nor any position.
abbrev pub heard_in : Air → List Entry → ℕ → List Heard
heard_in air [] craft = []
heard_in air (Commit own cycle cells ∷ earlier) craft = if own == craft then committed ∷ heard_in air earlier craft else heard_in air earlier craft
heard_in air (Send own target number word ∷ earlier) craft = heard_in air earlier craft
heard_in air (Take own send copy good ∷ earlier) craft =
    if good && own == craft then with_message air (sent_at earlier send) copy (heard_in air earlier craft) else heard_in air earlier craft

-- ---- a reason without its names

-- What was told, without the positions of the send and of the take.
abbrev pub without_positions : Told → Told
without_positions it = record { complement = it.complement; sent_at = 0; taken_at = 0; commits_since = it.commits_since }

-- A reason without what only names: its position, both addresses, and the positions of the send and of the take of a
-- message.
abbrev pub without_names : Reason → Reason
without_names reason = record {
  position = 0;
  cycle = reason.cycle;
  own = 0;
  other = 0;
  seen = reason.seen;
  continued = reason.continued;
  told = option_map without_positions reason.told;
  before = reason.before;
  cell = reason.cell;
  rule = reason.rule;
}

-- ---- what follows from what

-- What was measured, tracked, tested and projected follows from the sight up to the cycle of the reason, whatever else
-- the encounters and the journals have.
abbrev pub GoesBySight : Type 0
GoesBySight = (e f : Parts) (own cycle : ℕ) → SeesAlike e f own cycle → (journal_one journal_two : List Entry) (cells_one cells_two : Cells) (other : ℕ) →
    (reason_of e journal_one own cycle cells_one other).seen ≡ (reason_of f journal_two own cycle cells_two other).seen

-- What was in force, and for how many commits, follows from what was heard before.
abbrev pub GoesByHearing : Type 0
GoesByHearing = (e f : Parts) (own : ℕ) (journal_one journal_two : List Entry) → heard_in (air_of e) journal_one own ≡ heard_in (air_of f) journal_two own →
    (cycle_one cycle_two : ℕ) (cells_one cells_two : Cells) (other : ℕ) →
    option_map without_positions (reason_of e journal_one own cycle_one cells_one other).told ≡ option_map without_positions (reason_of f journal_two own cycle_two cells_two other).told

-- All of a reason of a legal journal, the cells before and after and the rule among it, follows from both.
abbrev pub GoesByBoth : Type 0
GoesByBoth = (e f : Parts) (own cycle : ℕ) (earlier_one earlier_two : List Entry) (cells_one cells_two : Cells) → IsEncounter e →
    IsLegal (air_of e) (Commit own cycle cells_one ∷ earlier_one) → IsLegal (air_of f) (Commit own cycle cells_two ∷ earlier_two) →
    SeesAlike e f own cycle → heard_in (air_of e) earlier_one own ≡ heard_in (air_of f) earlier_two own →
    (other : ℕ) → other < length e.crafts → other ≢ own →
    without_names (reason_of e earlier_one own cycle cells_one other) ≡ without_names (reason_of f earlier_two own cycle cells_two other)

-- ---- what the positions name

-- The message that a reason names was sent by the other aircraft, and own aircraft took a copy of it unspoilt, at this
-- place; it reads as this complement, and own aircraft made so many commits since, too few for it to lapse.
pub record IsNamed (air : Air) (journal : List Entry) (own other : ℕ) (it : Told) : Type 0 where
  pub before : List Entry
  pub copy : ℕ
  pub there : Begins (Take own it.sent_at copy true ∷ before) journal
  pub place : length before ≡ it.taken_at
  pub sender : is_from (sent_at before it.sent_at) other ≡ true
  pub reads : complement_read (read_copy air (sent_at before it.sent_at) copy) ≡ it.complement
  pub commits_are : commits journal own ≡ commits before own + it.commits_since
  pub in_force : it.commits_since < lapse

abbrev pub NamesItsMessage : Type 0
NamesItsMessage = (e : Parts) (journal : List Entry) (own cycle : ℕ) (cells : Cells) (other : ℕ) (it : Told) →
    (reason_of e journal own cycle cells other).told ≡ Some it → IsNamed (air_of e) journal own other it
