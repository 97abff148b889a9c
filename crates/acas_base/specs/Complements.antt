-- Resolution advisory complements: what an aircraft asks of a threat (ICAO Annex 10 vol. IV, 4.3).
use Rattle.std.specs.Prelude.{ℕ, ◌+◌, Bool, false, if◌then◌else◌, nat_lt, Option, Some, None}
use Rattle.acas_base.specs.Senses.{is_same_sense}
use Rattle.acas_base.specs.declared.advisory.TheConstants.{LAPSE}
use Rattle.acas_base.specs.declared.advisory.Sense.{Sense}
use Rattle.acas_base.specs.declared.advisory.Sense.TheVariants.{Up, Down}
use Rattle.acas_base.specs.declared.advisory.Vrc.{Vrc}
use Rattle.acas_base.specs.declared.advisory.Vrc.TheVariants.{Nil, NotBelow, NotAbove}

-- The sense that a complement forbids to its receiver. "Do not pass below" forbids down, and "do not pass above"
-- forbids up.
abbrev pub forbidden_sense : Vrc → Option Sense
forbidden_sense Nil = None
forbidden_sense NotBelow = Some Down
forbidden_sense NotAbove = Some Up

abbrev pub forbids : Vrc → Sense → Bool
forbids Nil sense = false
forbids NotBelow sense = is_same_sense sense Down
forbids NotAbove sense = is_same_sense sense Up

-- The complement that an aircraft sends with an advisory of this sense: it forbids the same sense to the threat.
abbrev pub complement_of : Sense → Vrc
complement_of Up = NotAbove
complement_of Down = NotBelow

-- A complement that isn't renewed lapses. It is in force only while its taker has made fewer than LAPSE commits since
-- the take. `taken` is how many commits the taker had made at the take, and `made` how many it has made now.
abbrev pub in_force : Vrc → ℕ → ℕ → Vrc
in_force complement taken made = if nat_lt made (taken + LAPSE) then complement else Nil

-- The complement that a message cancels where it sets the second one after the first. It is the first one, where both
-- are set and differ.
abbrev pub cancelled_complement : Vrc → Vrc → Vrc
cancelled_complement NotBelow NotAbove = NotBelow
cancelled_complement NotAbove NotBelow = NotAbove
cancelled_complement _ _ = Nil
