-- What the intervals of equal senses are, without the recursion that finds them.
use Rattle.std.specs.Prelude.{◌≡◌, ◌≢◌, ℕ, ◌+◌, ◌<◌, ◌≤◌, true, false, List, ◌∷◌, length, Option, Some, None, unwrap_or}
use Rattle.acas_base.specs.declared.advisory.Sense.{Sense}
use Rattle.acas_base.specs.declared.entry.Entry.{Entry}
use Rattle.air_rules.specs.Journal.{Begins}
use Rattle.pair_watch.specs.Watching.{begun_sense, equal_sense, is_pair_commit, last_of}

-- At this position one of two aircraft commits. After it both advise against each other in this sense, or there is no
-- sense in which they do.
pub record HasCommit (journal : List Entry) (low high at : ℕ) (sense : Option Sense) : Type 0 where
  pub before : List Entry
  pub entry : Entry
  pub there : Begins (entry ∷ before) journal
  pub position : length before ≡ at
  pub of_pair : is_pair_commit low high entry ≡ true
  pub sense_is : equal_sense (entry ∷ before) low high ≡ sense

-- Neither of the two commits between two positions.
abbrev pub NoCommitBetween : List Entry → ℕ → ℕ → ℕ → ℕ → Type 0
NoCommitBetween journal low high first last = (before : List Entry) (entry : Entry) →
    Begins (entry ∷ before) journal → first < length before → length before < last → is_pair_commit low high entry ≡ false

-- An interval that has a line: its sense, and the positions of its first and of its last commit.
pub record IsInterval (journal : List Entry) (low high : ℕ) (sense : Sense) (from to : ℕ) : Type 0 where
  pub begun : List Entry
  pub there : Begins begun journal
  pub size : length begun ≡ from + 1
  pub begins : begun_sense begun low high from ≡ Some sense
  pub ends : unwrap_or (last_of journal low high from) from ≡ to

-- The interval in which a commit with equal senses lies.
pub record LiesInInterval (journal : List Entry) (low high : ℕ) (sense : Sense) (at : ℕ) : Type 0 where
  pub from : ℕ
  pub to : ℕ
  pub interval : IsInterval journal low high sense from to
  pub begun : from ≤ at
  pub lasting : at ≤ to

-- Of two aircraft.
pub record HasAllIntervals (journal : List Entry) (low high : ℕ) : Type 0 where
  -- Each commit after which the senses are equal lies in an interval of this sense.
  pub covered : (at : ℕ) (sense : Sense) → HasCommit journal low high at (Some sense) → LiesInInterval journal low high sense at
  -- It lies in no other one: two intervals that have a position in common are the same.
  pub once : (one two : Sense) (at from to other_from other_to : ℕ) →
      IsInterval journal low high one from to → IsInterval journal low high two other_from other_to →
      from ≤ at → at ≤ to → other_from ≤ at → at ≤ other_to → (from ≡ other_from) × (to ≡ other_to) × (one ≡ two)
  -- An interval begins with such a commit, and ends with one.
  pub first : (sense : Sense) (from to : ℕ) → IsInterval journal low high sense from to → HasCommit journal low high from (Some sense)
  pub last : (sense : Sense) (from to : ℕ) → IsInterval journal low high sense from to → HasCommit journal low high to (Some sense)
  -- After each commit of the two in it they have its sense.
  pub equal : (sense : Sense) (from to at : ℕ) (found : Option Sense) → IsInterval journal low high sense from to →
      HasCommit journal low high at found → from ≤ at → at ≤ to → found ≡ Some sense
  -- After the last commit of the two before it, and after the first one past it, the senses aren't equal.
  pub before : (sense : Sense) (from to at : ℕ) (found : Option Sense) → IsInterval journal low high sense from to →
      HasCommit journal low high at found → at < from → NoCommitBetween journal low high at from → found ≡ None
  pub after : (sense : Sense) (from to at : ℕ) (found : Option Sense) → IsInterval journal low high sense from to →
      HasCommit journal low high at found → to < at → NoCommitBetween journal low high to at → found ≡ None

abbrev pub IsCutIntoIntervals : List Entry → Type 0
IsCutIntoIntervals journal = (low high : ℕ) → low ≢ high → HasAllIntervals journal low high
