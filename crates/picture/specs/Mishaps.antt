-- The maximal rows of messages of one aircraft to another one that were lost, and those that were spoilt. A journal
-- stands with its newest entry first.
use Rattle.std.specs.Prelude.{ℕ, ◌<◌, ◌≤◌, List, [], ◌∷◌, ◌++◌, length, Option, None, option_and_then, option_map, option_to_list, reverse, slice_get}
use Rattle.acas_base.specs.Encounter.{Parts}
use Rattle.acas_base.specs.declared.entry.Entry.{Entry}
use Rattle.acas_base.specs.declared.entry.Entry.TheVariants.{Commit, Send, Take}
use Rattle.air_rules.specs.Journal.{commits}
use Rattle.deliveries.specs.Mishaps.{befallen_of}
use Rattle.deliveries.specs.Rows.{row_at}
use Rattle.deliveries.specs.declared.mishap.Mishap.{Mishap}
use Rattle.deliveries.specs.declared.mishap.Mishap.TheVariants.{Lost, Spoilt}
use Rattle.deliveries.specs.declared.rows.Row.{Row}
use Rattle.journal_reader.specs.Reading.{read_of}
use Rattle.picture.specs.declared.mishaps.Sign.{Sign}
use Rattle.picture.specs.declared.mishaps.Sign.TheVariants.{Cross, HollowHead}
use Rattle.picture.specs.declared.mishaps.SentRow.{SentRow}

-- A cross stands for messages that were lost, a hollow head for messages that were spoilt.
abbrev pub mishap_of : Sign → Mishap
mishap_of Cross = Lost
mishap_of HollowHead = Spoilt

abbrev pub sent_row : ℕ → ℕ → ℕ → Row → SentRow
sent_row sender receiver sent_after row = record { sender = sender; receiver = receiver; row = row; sent_after = sent_after }

-- The maximal row that begins with a message, which was sent after so many commits of its sender.
abbrev pub row_from : Parts → List Entry → Sign → ℕ → ℕ → ℕ → ℕ → Option SentRow
row_from e journal sign sender receiver number sent_after = option_map (sent_row sender receiver sent_after) (row_at (befallen_of e journal (mishap_of sign) sender receiver) number)

-- The maximal row that begins with the message that an entry sends, after the entries before it.
abbrev pub row_of : Parts → List Entry → Sign → List Entry → Entry → Option SentRow
row_of e journal sign earlier (Commit own cycle cells) = None
row_of e journal sign earlier (Send own target number word) = row_from e journal sign own target number (commits earlier own)
row_of e journal sign earlier (Take own send copy good) = None

-- The maximal row that begins with the message that was sent at a position.
abbrev pub row_sent_at : Parts → List Entry → Sign → ℕ → Option SentRow
row_sent_at e journal sign at = option_and_then (row_of e journal sign (read_of journal at)) (slice_get (reverse journal) at)

-- The rows of a beginning of the journal, in the order in which their first messages were sent.
unfoldable pub rows_in : Parts → List Entry → Sign → List Entry → List SentRow
rows_in e journal sign [] = []
rows_in e journal sign (entry ∷ earlier) = rows_in e journal sign earlier ++ option_to_list (row_of e journal sign earlier entry)

-- All of them.
abbrev pub sent_rows : Parts → List Entry → Sign → List SentRow
sent_rows e journal sign = rows_in e journal sign journal

-- The aircraft are those of the encounter, and the cycle is one of the run, or 0.
pub record IsSentRow (e : Parts) (sent : SentRow) : Type 0 where
  pub sender : sent.sender < length e.crafts
  pub receiver : sent.receiver < length e.crafts
  pub after : sent.sent_after ≤ e.cycles
  pub order : sent.row.first ≤ sent.row.last
  pub few : sent.row.last ≤ 600
