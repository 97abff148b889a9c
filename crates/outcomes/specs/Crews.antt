-- What the crews of a run see and hear.
use Rattle.std.specs.Prelude.{◌≡◌, ℕ, ◌+◌, ◌-◌, ◌*◌, ◌<◌, ◌≤◌, List, length, slice_index_or}
use Rattle.acas_base.specs.declared.TheConstants.{CRAFTS}
use Rattle.acas_base.specs.declared.entry.Entry.{Entry}
use Rattle.advisory_report.specs.Composite.{clear, word_of}
use Rattle.advisory_report.specs.Phrases.{aural_of}
use Rattle.advisory_report.specs.declared.composite.Composite.{Composite}
use Rattle.outcomes.specs.Advised.{shown_in}

-- ---- of two journals

-- After its commit of a cycle an aircraft has the same word of the report in both, and its crew hears the same.
pub record HearsTheSame (one other : List Entry) (own cycle : ℕ) : Type 0 where
  pub word : word_of (shown_in one own cycle) ≡ word_of (shown_in other own cycle)
  pub phrase : aural_of (shown_in one own (cycle - 1)) (shown_in one own cycle) ≡ aural_of (shown_in other own (cycle - 1)) (shown_in other own cycle)

-- So have and hear all of so many aircraft, in all of so many cycles.
abbrev pub HearTheSame : List Entry → List Entry → ℕ → ℕ → Type 0
HearTheSame one other crafts cycles = (own cycle : ℕ) → own < crafts → 1 ≤ cycle → cycle ≤ cycles → HearsTheSame one other own cycle

-- ---- as it is kept

-- Where the composite of an aircraft after a cycle is kept. Cycle 0 is before the first one.
abbrev pub kept_at : ℕ → ℕ → ℕ
kept_at own cycle = cycle * CRAFTS + own

abbrev pub kept : List Composite → ℕ → ℕ → Composite
kept list own cycle = slice_index_or list (kept_at own cycle) clear

-- The list has what so many aircraft show, at the places below `end`.
pub record AreKeptBelow (journal : List Entry) (crafts end : ℕ) (list : List Composite) : Type 0 where
  pub size : length list ≡ 9616
  pub are : (own cycle : ℕ) → own < crafts → kept_at own cycle < end → kept list own cycle ≡ shown_in journal own cycle

-- The list has what so many aircraft show, from before the first cycle to after the last of so many.
pub record AreCrews (journal : List Entry) (crafts cycles : ℕ) (list : List Composite) : Type 0 where
  pub are : (own cycle : ℕ) → own < crafts → cycle ≤ cycles → kept list own cycle ≡ shown_in journal own cycle

-- The same of a list and a journal.
pub record IsHeard (list : List Composite) (journal : List Entry) (own cycle : ℕ) : Type 0 where
  pub word : word_of (kept list own cycle) ≡ word_of (shown_in journal own cycle)
  pub phrase : aural_of (kept list own (cycle - 1)) (kept list own cycle) ≡ aural_of (shown_in journal own (cycle - 1)) (shown_in journal own cycle)

abbrev pub AreHeard : List Composite → List Entry → ℕ → ℕ → Type 0
AreHeard list journal crafts cycle = (own : ℕ) → own < crafts → IsHeard list journal own cycle

abbrev pub AreAllHeard : List Composite → List Entry → ℕ → ℕ → Type 0
AreAllHeard list journal crafts cycles = (cycle : ℕ) → 1 ≤ cycle → cycle ≤ cycles → AreHeard list journal crafts cycle
