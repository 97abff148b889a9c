-- What a reader keeps of each aircraft, and of each aircraft against each other one.
use Rattle.std.specs.Prelude.{◌≡◌, ◌≢◌, ℕ, ◌+◌, ◌*◌, ◌<◌, ◌≤◌, ◌&&◌, ◌==◌, if◌then◌else◌, List, [], ◌∷◌, Option, Some, None, length, option_and_then, slice_index_or}
use Rattle.acas_base.specs.Encounter.{Parts}
use Rattle.acas_base.specs.Senses.{has_sense, sense_of}
use Rattle.acas_base.specs.declared.TheConstants.{CRAFTS}
use Rattle.acas_base.specs.declared.advisory.Cell.{Cell}
use Rattle.acas_base.specs.declared.advisory.Cell.TheVariants.{Clear}
use Rattle.acas_base.specs.declared.advisory.Cells.{Cells}
use Rattle.acas_base.specs.declared.entry.Entry.{Entry}
use Rattle.acas_base.specs.declared.entry.Entry.TheVariants.{Commit, Send, Take}
use Rattle.air_journal.specs.Airs.{air_of}
use Rattle.air_rules.specs.Air.{Air}
use Rattle.air_rules.specs.Journal.{before_last_commit, cell_at, commits, last_cell, sent_at}
use Rattle.air_rules.specs.Takes.{complement_read, is_from, read_copy}
use Rattle.journal_reader.specs.Reading.{present_run, read_of}
use Rattle.journal_reader.specs.declared.links.GoodTake.{GoodTake}
use Rattle.journal_reader.specs.declared.links.Link.{Link}
use Rattle.journal_reader.specs.declared.taking.Told.{Told}
use Rattle.res_message.specs.Words.{read_word}

abbrev pub no_link : Link
no_link = record { cell = Clear; run = None; taken = None; bound = None }

abbrev pub link_at : List Link → ℕ → ℕ → Link
link_at links own other = slice_index_or links (own * CRAFTS + other) no_link

-- The last good take by an aircraft of a message of another one, with its position.
abbrev pub good_take : Air → List Entry → ℕ → ℕ → Option GoodTake
good_take air [] craft other = None
good_take air (Commit own cycle cells ∷ earlier) craft other = good_take air earlier craft other
good_take air (Send own target number word ∷ earlier) craft other = good_take air earlier craft other
good_take air (Take own send copy good ∷ earlier) craft other =
    if good && (own == craft && is_from (sent_at earlier send) other)
    then Some (record { at = length earlier; send = send; vrc = complement_read (read_copy air (sent_at earlier send) copy); commits = commits earlier craft })
    else good_take air earlier craft other

-- What a journal says of an aircraft against another one.
abbrev pub link_of : Air → List Entry → ℕ → ℕ → Link
link_of air journal own other = record {
  cell = last_cell journal own other;
  run = present_run journal own other;
  taken = good_take air journal own other;
  bound = good_take air (before_last_commit journal own) own other;
}

pub record IsKept (air : Air) (journal : List Entry) (counts : List ℕ) (links : List Link) : Type 0 where
  pub crafts : length counts ≡ CRAFTS
  pub pairs : length links ≡ 256
  pub count : (own : ℕ) → own < CRAFTS → slice_index_or counts own 0 ≡ commits journal own
  pub link : (own other : ℕ) → own < CRAFTS → other < CRAFTS → link_at links own other ≡ link_of air journal own other

pub record IsReader (e : Parts) (journal : List Entry) (at : ℕ) (counts : List ℕ) (links : List Link) : Type 0 where
  pub within : at ≤ length journal
  pub kept : IsKept (air_of e) (read_of journal at) counts links

-- ---- what each entry changes

-- Where an aircraft's run began, after a commit at this position with this cell.
abbrev pub run_after : Link → Cell → ℕ → Option ℕ
run_after link cell at = option_and_then (λ sense. if has_sense link.cell sense then link.run else Some at) (sense_of cell)

abbrev pub committed_link : Link → Cell → ℕ → Link
committed_link link cell at = record { cell = cell; run = run_after link cell at; taken = link.taken; bound = link.taken }

abbrev pub taken_link : Link → GoodTake → Link
taken_link link taken = record { cell = link.cell; run = link.run; taken = Some taken; bound = link.bound }

-- The links of an aircraft are those after a commit with these cells.
pub record RowIs (old new : List Link) (own : ℕ) (cells : Cells) (at : ℕ) : Type 0 where
  pub size : length new ≡ 256
  pub row : (b : ℕ) → b < CRAFTS → link_at new own b ≡ committed_link (link_at old own b) (cell_at cells b) at
  pub others : (a b : ℕ) → a < CRAFTS → b < CRAFTS → a ≢ own → link_at new a b ≡ link_at old a b

-- The link of one pair is that after a take.
pub record PairIs (old new : List Link) (own sender : ℕ) (taken : GoodTake) : Type 0 where
  pub size : length new ≡ 256
  pub pair : (a b : ℕ) → a < CRAFTS → b < CRAFTS → link_at new a b ≡ (if own == a && sender == b then taken_link (link_at old a b) taken else link_at old a b)

-- The message that a word says, and who sent it. Where the word reads as no message, it has no complement.
abbrev pub from_word : ℕ → ℕ → Told
from_word sender word = record { sender = sender; vrc = complement_read (read_word word) }
