-- The composite advisory of an aircraft in a cycle: what its cells say together. The words are this project's profile.
use Rattle.std.specs.Prelude.{ℕ, Bool, true, false, not, ◌&&◌, ◌||◌, ◌==◌, if◌then◌else◌, List, codes, find, Option, Some, None, is_some}
use Rattle.std.specs.List.{list_any}
use Rattle.acas_base.specs.Senses.{is_same_sense}
use Rattle.acas_base.specs.Strengths.{place_of, strongest_first}
use Rattle.acas_base.specs.declared.advisory.Cell.{Cell}
use Rattle.acas_base.specs.declared.advisory.Cell.TheVariants.{Clear, Traffic, Ra}
use Rattle.acas_base.specs.declared.advisory.Cells.{Cells}
use Rattle.acas_base.specs.declared.advisory.Intent.{Intent}
use Rattle.acas_base.specs.declared.advisory.Sense.{Sense}
use Rattle.acas_base.specs.declared.advisory.Sense.TheVariants.{Up, Down}
use Rattle.acas_base.specs.declared.advisory.Strength.{Strength}
use Rattle.acas_base.specs.declared.advisory.Strength.TheVariants.{Limit2000, Limit1000, Limit500, Level, Positive, Increase}
use Rattle.advisory_report.specs.declared.composite.Advice.{Advice}
use Rattle.advisory_report.specs.declared.composite.Composite.{Composite}

abbrev pub is_traffic : Cell → Bool
is_traffic Clear = false
is_traffic Traffic = true
is_traffic (Ra advisory) = false

abbrev pub is_same_strength : Strength → Strength → Bool
is_same_strength one other = place_of one == place_of other

-- The cell has an advisory of this sense and strength, and the test holds for it.
abbrev pub advises_with : (Intent → Bool) → Sense → Strength → Cell → Bool
advises_with test sense strength Clear = false
advises_with test sense strength Traffic = false
advises_with test sense strength (Ra advisory) = is_same_sense advisory.sense sense && (is_same_strength advisory.strength strength && test advisory)

-- The cell has an advisory of this sense and strength.
abbrev pub advises : Sense → Strength → Cell → Bool
advises sense strength cell = advises_with (λ advisory. true) sense strength cell

-- The strongest strength that some cell's advisory of this sense has.
abbrev pub strongest_of : Sense → List Cell → Option Strength
strongest_of sense cells = find (λ strength. list_any (advises sense strength) cells) strongest_first

-- The test holds for some advisory of the sense that has this strength.
abbrev pub holds_at : (Intent → Bool) → Sense → Option Strength → List Cell → Bool
holds_at test sense None cells = false
holds_at test sense (Some strength) cells = list_any (advises_with test sense strength) cells

abbrev pub is_corrective : Intent → Bool
is_corrective advisory = advisory.corrective

abbrev pub is_crossing : Intent → Bool
is_crossing advisory = advisory.crossing

-- What the cells advise in one sense: the strongest strength, whether some advisory of that strength is corrective, and
-- whether some advisory of that strength is crossing.
abbrev pub advice_of : Sense → List Cell → Advice
advice_of sense cells =
    let strength = strongest_of sense cells in
    record { strength = strength; corrective = holds_at is_corrective sense strength cells; crossing = holds_at is_crossing sense strength cells }

-- There is advice of both senses.
abbrev pub has_both : Option Strength → Option Strength → Bool
has_both up down = is_some up && is_some down

-- With advice of both senses `corrective` holds and `crossing` doesn't. Else both are those of the one sense.
abbrev pub joint : Bool → Advice → Advice → Composite
joint traffic up down = record {
  traffic = traffic;
  up = up.strength;
  down = down.strength;
  corrective = has_both up.strength down.strength || (up.corrective || down.corrective);
  crossing = not (has_both up.strength down.strength) && (up.crossing || down.crossing);
}

unfoldable pub composite_of : Cells → Composite
composite_of cells = joint (list_any is_traffic cells.list) (advice_of Up cells.list) (advice_of Down cells.list)

-- No advice and no traffic.
abbrev pub clear : Composite
clear = record { traffic = false; up = None; down = None; corrective = false; crossing = false }

-- What an aircraft shows after a commit with these cells, and before its first one.
abbrev pub shown : Option Cells → Composite
shown None = clear
shown (Some cells) = composite_of cells

abbrev pub up_word : Strength → List ℕ
up_word Limit2000 = codes "UP-2000"
up_word Limit1000 = codes "UP-1000"
up_word Limit500 = codes "UP-500"
up_word Level = codes "UP-LEVEL"
up_word Positive = codes "UP-CLIMB"
up_word Increase = codes "UP-INCREASE"

abbrev pub down_word : Strength → List ℕ
down_word Limit2000 = codes "DOWN-2000"
down_word Limit1000 = codes "DOWN-1000"
down_word Limit500 = codes "DOWN-500"
down_word Level = codes "DOWN-LEVEL"
down_word Positive = codes "DOWN-DESCEND"
down_word Increase = codes "DOWN-INCREASE"

-- The word for the strengths of the two senses, and for traffic.
abbrev pub word_for : Option Strength → Option Strength → Bool → List ℕ
word_for None None traffic = if traffic then codes "TRAFFIC" else codes "CLEAR"
word_for (Some up) None traffic = up_word up
word_for None (Some down) traffic = down_word down
word_for (Some up) (Some down) traffic = codes "LEVEL-BOTH"

abbrev pub word_of : Composite → List ℕ
word_of composite = word_for composite.up composite.down composite.traffic
