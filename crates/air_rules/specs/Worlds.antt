-- What an aircraft advises follows from what it sees and from the complements in force on it, and from nothing else.
use Rattle.std.specs.Prelude.{◌≡◌, ℕ, ◌≤◌, List, ◌∷◌}
use Rattle.acas_base.specs.declared.advisory.Cells.{Cells}
use Rattle.acas_base.specs.declared.entry.Entry.{Entry}
use Rattle.acas_base.specs.declared.entry.Entry.TheVariants.{Commit}
use Rattle.air_rules.specs.Air.{Air, rank_of}
use Rattle.air_rules.specs.Journal.{Begins}
use Rattle.air_rules.specs.Takes.{complement_from}

-- Two airs look the same to an aircraft up to a cycle. They have as many aircraft, the same ranks and the same views.
pub record SeesTheSame (one two : Air) (own last : ℕ) : Type 0 where
  pub count : one.count ≡ two.count
  pub places : one.places ≡ two.places
  pub ranks : (other : ℕ) → rank_of one own other ≡ rank_of two own other
  pub views : (other cycle : ℕ) → cycle ≤ last → one.view own other cycle ≡ two.view own other cycle

-- Before each of its commits up to a cycle the aircraft has the same complements in force in both journals.
abbrev pub IsToldTheSame : Air → Air → List Entry → List Entry → ℕ → ℕ → Type 0
IsToldTheSame one two journal_one journal_two own last = (cycle other : ℕ) (earlier_one earlier_two : List Entry) (cells_one cells_two : Cells) →
    cycle ≤ last → Begins (Commit own cycle cells_one ∷ earlier_one) journal_one → Begins (Commit own cycle cells_two ∷ earlier_two) journal_two →
    complement_from one earlier_one own other ≡ complement_from two earlier_two own other

-- Where both hold up to a cycle, the aircraft commits the same cells in both journals up to that cycle.
abbrev pub AreTwoWorlds : Air → Air → List Entry → List Entry → Type 0
AreTwoWorlds one two journal_one journal_two = (own last : ℕ) → SeesTheSame one two own last → IsToldTheSame one two journal_one journal_two own last →
    (cycle : ℕ) (earlier_one earlier_two : List Entry) (cells_one cells_two : Cells) →
    cycle ≤ last → Begins (Commit own cycle cells_one ∷ earlier_one) journal_one → Begins (Commit own cycle cells_two ∷ earlier_two) journal_two →
    cells_one ≡ cells_two
