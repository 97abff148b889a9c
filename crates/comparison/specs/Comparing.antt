-- The text of what is found.
use Rattle.std.specs.Prelude.{ℕ, Bool, if◌then◌else◌, List, [], ◌∷◌, ◌++◌, codes, is_none, Option, Some, None}
use Rattle.acas_base.specs.Encounter.{Parts}
use Rattle.acas_lines.specs.Lines.{joined, line_of}
use Rattle.air_journal.specs.States.{State}
use Rattle.comparison.specs.Cells.{cell_line}
use Rattle.comparison.specs.Found.{is_equal}
use Rattle.comparison.specs.Reports.{apart_lines}
use Rattle.comparison.specs.Sides.{told}
use Rattle.comparison.specs.Texts.{picked}
use Rattle.comparison.specs.declared.cells.CellPlace.{CellPlace}
use Rattle.comparison.specs.declared.finding.Found.{Found}
use Rattle.comparison.specs.declared.finding.RunFound.{RunFound}
use Rattle.comparison.specs.declared.sides.Side.TheVariants.{One, Other}
use Rattle.enc_file.specs.Canonical.{canonical_lines}

-- Whether a thing is the same in both.
abbrev pub sameness_word : Bool → List ℕ
sameness_word same = if same then codes "equal" else codes "different"

abbrev pub sameness_line : List ℕ → Bool → List ℕ
sameness_line thing same = line_of (thing ∷ sameness_word same ∷ [])

-- The first line of the encounters that differs, on each side that has it.
abbrev pub encounter_lines : Parts → Parts → Option ℕ → List (List ℕ)
encounter_lines e f found = told One (picked found (canonical_lines e)) ++ told Other (picked found (canonical_lines f))

abbrev pub cell_lines : State → State → Option CellPlace → List (List ℕ)
cell_lines one other None = []
cell_lines one other (Some place) = cell_line one.encounter one.journal other.journal place ∷ []

abbrev pub run_lines : State → State → Option RunFound → List (List ℕ)
run_lines one other None = []
run_lines one other (Some run) =
    sameness_line (codes "cells") (is_none run.cell)
    ∷ sameness_line (codes "report") run.same_report
    ∷ sameness_line (codes "messages") run.same_messages
    ∷ (cell_lines one other run.cell ++ apart_lines one other)

abbrev pub different_lines : State → State → Found → List (List ℕ)
different_lines one other found =
    sameness_line (codes "encounter") (is_none found.encounter) ∷ (encounter_lines one.encounter other.encounter found.encounter ++ run_lines one other found.run)

abbrev pub compared_lines : State → State → Found → List (List ℕ)
compared_lines one other found = sameness_line (codes "compare") (is_equal found) ∷ (if is_equal found then [] else different_lines one other found)

abbrev pub compared_text : State → State → Found → List ℕ
compared_text one other found = joined (compared_lines one other found)
