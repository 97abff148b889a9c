-- What a journal says of an aircraft follows from that aircraft's own entries.
use Rattle.std.specs.Prelude.{◌≡◌, ◌≢◌, ℕ, true, List, ◌∷◌}
use Rattle.acas_base.specs.declared.entry.Entry.{Entry}
use Rattle.air_rules.specs.Air.{Air, is_active}
use Rattle.air_rules.specs.Journal.{Begins, owner_of, entries_of, commits, sends, last_cell, was_taken, has_sent}
use Rattle.air_rules.specs.Owed.{said, owed}
use Rattle.air_rules.specs.Rules.{IsComplete, IsDone}

-- Two journals say the same of what an aircraft did, and of what it owes.
pub record SaysTheSame (air : Air) (one two : List Entry) (own : ℕ) : Type 0 where
  pub commits_are : commits one own ≡ commits two own
  pub cells_are : (other : ℕ) → last_cell one own other ≡ last_cell two own other
  pub sends_are : (other : ℕ) → sends one own other ≡ sends two own other
  pub said_is : (other : ℕ) → said air one own other ≡ said air two own other
  pub has_sent_is : (other : ℕ) → has_sent one own other ≡ has_sent two own other
  pub takes_are : (send copy : ℕ) → was_taken one own send copy ≡ was_taken two own send copy
  pub owed_is : (other : ℕ) → owed air one own other ≡ owed air two own other

-- Journals with the same entries of an aircraft say the same of it.
abbrev pub DependsOnOwn : Air → Type 0
DependsOnOwn air = (one two : List Entry) (own : ℕ) → entries_of one own ≡ entries_of two own → SaysTheSame air one two own

-- A new entry is added to the entries of the aircraft that makes it.
abbrev pub AddsToOwn : Type 0
AddsToOwn = (entry : Entry) (journal : List Entry) → entries_of (entry ∷ journal) (owner_of entry) ≡ entry ∷ entries_of journal (owner_of entry)

-- It leaves the entries of each other aircraft as they are.
abbrev pub KeepsOthers : Type 0
KeepsOthers = (entry : Entry) (journal : List Entry) (own : ℕ) → owner_of entry ≢ own → entries_of (entry ∷ journal) own ≡ entries_of journal own

-- Two journals have the same entries of an aircraft, and one begins the other. Then each journal between them has these
-- entries too.
abbrev pub StaysBetween : Type 0
StaysBetween = (earlier between later : List Entry) (own : ℕ) →
    Begins earlier between → Begins between later → entries_of earlier own ≡ entries_of later own → entries_of earlier own ≡ entries_of between own

-- An entry leaves what the journal says of another aircraft.
abbrev pub LeavesOthers : Air → Type 0
LeavesOthers air = (entry : Entry) (journal : List Entry) (own : ℕ) → owner_of entry ≢ own → SaysTheSame air (entry ∷ journal) journal own

-- An aircraft is done in some journal with the same entries of that aircraft.
pub record IsDoneSomewhere (air : Air) (journal : List Entry) (own : ℕ) : Type 0 where
  pub front : List Entry
  pub same : entries_of front own ≡ entries_of journal own
  pub done : IsDone air front own

-- A journal is complete where each active aircraft is done in some journal with the same entries of that aircraft.
abbrev pub CompletesByOwn : Air → Type 0
CompletesByOwn air = (journal : List Entry) → ((own : ℕ) → is_active air own ≡ true → IsDoneSomewhere air journal own) → IsComplete air journal
