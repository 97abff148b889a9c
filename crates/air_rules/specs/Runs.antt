-- The present run of an aircraft: the longest row of its commits, up to the last one, that advise against another
-- aircraft in one sense.
use Rattle.std.specs.Prelude.{◌≡◌, ◌≢◌, ◌↔◌, ◌≤◌, IsSome, ℕ, if◌then◌else◌, ◌==◌, List, [], ◌∷◌, length, Option, Some, None, unwrap_or}
use Rattle.acas_base.specs.Senses.{has_sense, sense_of}
use Rattle.acas_base.specs.declared.advisory.Cells.{Cells}
use Rattle.acas_base.specs.declared.advisory.Sense.{Sense}
use Rattle.acas_base.specs.declared.entry.Entry.{Entry}
use Rattle.acas_base.specs.declared.entry.Entry.TheVariants.{Commit, Send, Take}
use Rattle.air_rules.specs.Journal.{Begins, cell_at, last_cell}

-- The position of the first commit of an aircraft's present run against another one in this sense. None where its last
-- commit doesn't have the sense.
abbrev pub run_began : List Entry → ℕ → ℕ → Sense → Option ℕ
run_began [] craft other sense = None
run_began (Commit own cycle cells ∷ earlier) craft other sense =
    if own == craft
    then (if has_sense (cell_at cells other) sense then Some (unwrap_or (run_began earlier craft other sense) (length earlier)) else None)
    else run_began earlier craft other sense
run_began (Send own target number word ∷ earlier) craft other sense = run_began earlier craft other sense
run_began (Take own send copy good ∷ earlier) craft other sense = run_began earlier craft other sense

-- At this position an aircraft committed, and its present run began there. This commit and all its later ones have the
-- sense against the other aircraft, and the commit before didn't.
pub record BeginsRun (journal : List Entry) (own other : ℕ) (sense : Sense) (began : ℕ) : Type 0 where
  pub before : List Entry
  pub cycle : ℕ
  pub cells : Cells
  pub commit : Begins (Commit own cycle cells ∷ before) journal
  pub position : length before ≡ began
  pub lasts : (later : List Entry) (cycle : ℕ) (cells : Cells) →
      Begins (Commit own cycle cells ∷ later) journal → began ≤ length later → sense_of (cell_at cells other) ≡ Some sense
  pub starts : sense_of (last_cell before own other) ≢ Some sense

-- An aircraft has a present run in a sense against another one exactly where its last cell has the sense. The run began
-- at the position that `run_began` gives.
pub record HasRunBySense : Type 0 where
  pub there : (journal : List Entry) (own other : ℕ) (sense : Sense) →
      (sense_of (last_cell journal own other) ≡ Some sense) ↔ IsSome (run_began journal own other sense)
  pub began : (journal : List Entry) (own other : ℕ) (sense : Sense) (began : ℕ) →
      run_began journal own other sense ≡ Some began → BeginsRun journal own other sense began
