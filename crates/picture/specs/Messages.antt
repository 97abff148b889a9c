-- The messages whose taking changes the complement in force on their receiver. A journal stands with its newest entry
-- first.
use Rattle.std.specs.Prelude.{ℕ, ◌≤◌, ◌<◌, ◌==◌, Bool, true, false, if◌then◌else◌, List, [], ◌∷◌, ◌++◌, length, Option, Some, None, option_and_then, option_map, option_to_list}
use Rattle.acas_base.specs.Encounter.{Parts}
use Rattle.acas_base.specs.declared.advisory.Vrc.{Vrc}
use Rattle.acas_base.specs.declared.advisory.Vrc.TheVariants.{Nil, NotAbove, NotBelow}
use Rattle.acas_base.specs.declared.entry.Entry.{Entry}
use Rattle.acas_base.specs.declared.entry.Entry.TheVariants.{Commit, Send, Take}
use Rattle.air_journal.specs.Airs.{air_of}
use Rattle.air_rules.specs.Journal.{Sent, commits, sent_at}
use Rattle.air_rules.specs.Takes.{complement_from}
use Rattle.journal_reader.specs.Reading.{read_of}
use Rattle.picture.specs.declared.messages_read.Arrow.{Arrow}
use Rattle.picture.specs.declared.messages_read.Origin.{Origin}
use Rattle.picture.specs.declared.messages_read.Taking.{Taking}

abbrev pub is_same_complement : Vrc → Vrc → Bool
is_same_complement Nil Nil = true
is_same_complement Nil NotBelow = false
is_same_complement Nil NotAbove = false
is_same_complement NotBelow Nil = false
is_same_complement NotBelow NotBelow = true
is_same_complement NotBelow NotAbove = false
is_same_complement NotAbove Nil = false
is_same_complement NotAbove NotBelow = false
is_same_complement NotAbove NotAbove = true

-- ---- takes

-- Who sent a message, and its number.
abbrev pub origin_of : Sent → Origin
origin_of sent = record { sender = sent.sender; number = sent.number }

-- What is known of a take of a message before it: the message, the positions of the send and of the take, how many
-- cycles the taker has committed, and the complement in force on it from the sender.
abbrev pub taking_by : Parts → List Entry → ℕ → ℕ → Origin → Taking
taking_by e earlier own send origin = record {
  sender = origin.sender;
  receiver = own;
  number = origin.number;
  send = send;
  take = length earlier;
  taken_after = commits earlier own;
  before = complement_from (air_of e) earlier own origin.sender;
}

abbrev pub taking_at : Parts → List Entry → List Entry → ℕ → ℕ → Option Taking
taking_at e journal earlier own send = option_map (taking_by e earlier own send) (option_map origin_of (sent_at journal send))

-- The take that an entry of the journal is, after the entries before it.
abbrev pub taking_of : Parts → List Entry → List Entry → Entry → Option Taking
taking_of e journal earlier (Commit own cycle cells) = None
taking_of e journal earlier (Send own target number word) = None
taking_of e journal earlier (Take own send copy good) = taking_at e journal earlier own send

-- ---- arrows

-- A take with the complement in force after it, where this isn't the one before. The sender had committed so many
-- cycles at the send.
abbrev pub arrow_by : List Entry → Taking → Vrc → Option Arrow
arrow_by journal taking after =
    if is_same_complement taking.before after
    then None
    else Some (record { taking = taking; sent_after = commits (read_of journal taking.send) taking.sender; after = after })

-- The same after these entries, the last one of which is the take.
abbrev pub arrow_after : Parts → List Entry → List Entry → Taking → Option Arrow
arrow_after e journal read taking = arrow_by journal taking (complement_from (air_of e) read taking.receiver taking.sender)

abbrev pub arrow_for : Parts → List Entry → List Entry → Option Taking → Option Arrow
arrow_for e journal read taking = option_and_then (arrow_after e journal read) taking

abbrev pub arrow_of : Parts → List Entry → List Entry → Entry → Option Arrow
arrow_of e journal earlier entry = arrow_for e journal (entry ∷ earlier) (taking_of e journal earlier entry)

-- Those of a beginning of the journal, in order.
unfoldable pub arrows_in : Parts → List Entry → List Entry → List Arrow
arrows_in e journal [] = []
arrows_in e journal (entry ∷ earlier) = arrows_in e journal earlier ++ option_to_list (arrow_of e journal earlier entry)

-- The arrows of a journal: the takes that change what is in force on the taker from the sender.
abbrev pub arrows : Parts → List Entry → List Arrow
arrows e journal = arrows_in e journal journal

-- ---- what is in its range

-- The aircraft are those of the encounter, and the cycles those of the run.
pub record IsTaking (e : Parts) (taking : Taking) : Type 0 where
  pub sender : taking.sender < length e.crafts
  pub receiver : taking.receiver < length e.crafts
  pub taken : taking.taken_after ≤ e.cycles

pub record IsArrow (e : Parts) (arrow : Arrow) : Type 0 where
  pub taking : IsTaking e arrow.taking
  pub sent : arrow.sent_after ≤ e.cycles

-- ---- commits before a position

-- The cycle that an entry commits for an aircraft.
abbrev pub committed_by : ℕ → Entry → Option ℕ
committed_by craft (Commit own cycle cells) = if own == craft then Some cycle else None
committed_by craft (Send own target number word) = None
committed_by craft (Take own send copy good) = None
