-- A journal that is read from its beginning.
use Rattle.std.specs.Prelude.{ℕ, ◌&&◌, ◌==◌, if◌then◌else◌, List, [], ◌∷◌, Option, Some, None, length, option_and_then, reverse, slice_get, take}
use Rattle.acas_base.specs.Encounter.{Parts}
use Rattle.acas_base.specs.Senses.{sense_of}
use Rattle.acas_base.specs.declared.entry.Entry.{Entry}
use Rattle.acas_base.specs.declared.entry.Entry.TheVariants.{Commit, Send, Take}
use Rattle.air_rules.specs.Journal.{last_cell, sent_at}
use Rattle.air_rules.specs.Runs.{run_began}
use Rattle.air_rules.specs.Takes.{Taken, is_from}
use Rattle.journal_reader.specs.declared.links.GoodTake.{GoodTake}

-- An encounter, a journal of it, and the beginning of the journal that was read. Both lists have the newest entry
-- first.
pub record Reading : Type 0 where
  pub encounter : Parts
  pub journal : List Entry
  pub read : List Entry

-- The first `count` entries of a journal.
abbrev pub read_of : List Entry → ℕ → List Entry
read_of journal count = reverse (take count (reverse journal))

-- The entry after those that were read; none where all were read.
abbrev pub next_entry : Reading → Option Entry
next_entry reading = slice_get (reverse reading.journal) (length reading.read)

-- The position of the last good take by an aircraft of a message of another one.
abbrev pub taken_at : List Entry → ℕ → ℕ → Option ℕ
taken_at [] craft other = None
taken_at (Commit own cycle cells ∷ earlier) craft other = taken_at earlier craft other
taken_at (Send own target number word ∷ earlier) craft other = taken_at earlier craft other
taken_at (Take own send copy good ∷ earlier) craft other =
    if good && (own == craft && is_from (sent_at earlier send) other) then Some (length earlier) else taken_at earlier craft other

-- A good take without its position.
abbrev pub taken_of : GoodTake → Taken
taken_of it = record { send = it.send; vrc = it.vrc; commits = it.commits }

-- The position of the first commit of an aircraft's present run against another one. None where its last commit doesn't
-- advise against that one.
abbrev pub present_run : List Entry → ℕ → ℕ → Option ℕ
present_run journal own other = option_and_then (λ sense. run_began journal own other sense) (sense_of (last_cell journal own other))
