-- What is found where two recordings are compared.
use Rattle.std.specs.Prelude.{◌≡◌, ◌↔◌, Bool, false, ◌&&◌, IsTrue, MatchOption, Option, Some, None, is_none, length}
use Rattle.air_journal.specs.States.{State}
use Rattle.comparison.specs.Cells.{AreSameCells, IsFirstCellFound}
use Rattle.comparison.specs.Encounters.{AreAlike}
use Rattle.comparison.specs.Messages.{AreSameMessages}
use Rattle.comparison.specs.Reports.{AreSameReports}
use Rattle.comparison.specs.Texts.{IsFirstDifference}
use Rattle.comparison.specs.declared.finding.Found.{Found}
use Rattle.comparison.specs.declared.finding.RunFound.{RunFound}
use Rattle.enc_file.specs.Canonical.{canonical_lines}

-- What is found of two runs with as many cycles and the same aircraft.
pub record IsRunFound (one other : State) (run : RunFound) : Type 0 where
  pub cell : IsFirstCellFound one.encounter.cycles (length one.encounter.crafts) one.journal other.journal run.cell
  pub report : IsTrue run.same_report ↔ AreSameReports one other
  pub messages : IsTrue run.same_messages ↔ AreSameMessages one.journal other.journal

-- Runs are compared where they have as many cycles and the same aircraft.
abbrev pub IsRunFoundWhereAlike : State → State → Option RunFound → Type 0
IsRunFoundWhereAlike one other found = MatchOption found (AreAlike one.encounter other.encounter → ⊥) (λ run. AreAlike one.encounter other.encounter × IsRunFound one other run)

-- All of it.
pub record IsFound (one other : State) (found : Found) : Type 0 where
  pub encounter : IsFirstDifference (canonical_lines one.encounter) (canonical_lines other.encounter) found.encounter
  pub run : IsRunFoundWhereAlike one other found.run

-- Nothing differs.
abbrev pub is_same_run : Option RunFound → Bool
is_same_run None = false
is_same_run (Some run) = is_none run.cell && (run.same_report && run.same_messages)

abbrev pub is_equal : Found → Bool
is_equal found = is_none found.encounter && is_same_run found.run

-- The encounters, all cells, the reports and the messages are equal, wherever the entries stand.
pub record AreEqual (one other : State) : Type 0 where
  pub encounters : one.encounter ≡ other.encounter
  pub cells : AreSameCells one.encounter.cycles (length one.encounter.crafts) one.journal other.journal
  pub reports : AreSameReports one other
  pub messages : AreSameMessages one.journal other.journal
