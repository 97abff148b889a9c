-- The two senses of an advisory.
use Rattle.std.specs.Prelude.{Bool, true, false, Option, Some, None}
use Rattle.acas_base.specs.declared.advisory.Cell.{Cell}
use Rattle.acas_base.specs.declared.advisory.Cell.TheVariants.{Clear, Traffic, Ra}
use Rattle.acas_base.specs.declared.advisory.Sense.{Sense}
use Rattle.acas_base.specs.declared.advisory.Sense.TheVariants.{Up, Down}
use Rattle.acas_base.specs.declared.choice.BySense.{BySense}

abbrev pub other_sense : Sense → Sense
other_sense Up = Down
other_sense Down = Up

abbrev pub is_same_sense : Sense → Sense → Bool
is_same_sense Up Up = true
is_same_sense Down Down = true
is_same_sense Up Down = false
is_same_sense Down Up = false

-- The sense of a cell's resolution advisory; none where it has no such advisory.
abbrev pub sense_of : Cell → Option Sense
sense_of Clear = None
sense_of Traffic = None
sense_of (Ra advisory) = Some advisory.sense

-- The cell has a resolution advisory of this sense.
abbrev pub has_sense : Cell → Sense → Bool
has_sense Clear sense = false
has_sense Traffic sense = false
has_sense (Ra advisory) sense = is_same_sense advisory.sense sense

-- A mark of each sense: of neither, of both, and of one of them.
abbrev pub neither : BySense
neither = record { up = false; down = false }

abbrev pub both : BySense
both = record { up = true; down = true }

abbrev pub holds_of : BySense → Sense → Bool
holds_of marks Up = marks.up
holds_of marks Down = marks.down
