-- The text of a cell (this project's profile).
use Rattle.std.specs.Prelude.{ℕ, Bool, if◌then◌else◌, List, [], ◌++◌, codes}
use Rattle.std.specs.Fmt.{decimal}
use Rattle.acas_base.specs.declared.advisory.Cell.{Cell}
use Rattle.acas_base.specs.declared.advisory.Cell.TheVariants.{Clear, Traffic, Ra}
use Rattle.acas_base.specs.declared.advisory.Intent.{Intent}
use Rattle.acas_base.specs.declared.advisory.Sense.{Sense}
use Rattle.acas_base.specs.declared.advisory.Sense.TheVariants.{Up, Down}
use Rattle.acas_base.specs.declared.advisory.Strength.{Strength}
use Rattle.acas_base.specs.declared.advisory.Strength.TheVariants.{Limit2000, Limit1000, Limit500, Level, Positive, Increase}

abbrev pub sense_letter : Sense → List ℕ
sense_letter Up = codes "U"
sense_letter Down = codes "D"

-- Strengths are numbered from 1, weakest first.
abbrev pub strength_digit : Strength → List ℕ
strength_digit Limit2000 = codes "1"
strength_digit Limit1000 = codes "2"
strength_digit Limit500 = codes "3"
strength_digit Level = codes "4"
strength_digit Positive = codes "5"
strength_digit Increase = codes "6"

-- These letters where something holds, else none.
abbrev pub flag : Bool → List ℕ → List ℕ
flag holds letter = if holds then letter else []

-- The age, and the letters of the flags that are set.
abbrev pub age_text : Intent → List ℕ
age_text it = decimal it.age ++ flag it.corrective (codes "c") ++ flag it.crossing (codes "x") ++ flag it.turned (codes "r")

-- A resolution advisory: its sense, its strength, a dot, its age, and its letters.
abbrev pub advisory_text : Intent → List ℕ
advisory_text it = sense_letter it.sense ++ strength_digit it.strength ++ codes "." ++ age_text it

abbrev pub cell_text : Cell → List ℕ
cell_text Clear = codes "-"
cell_text Traffic = codes "t"
cell_text (Ra it) = advisory_text it
