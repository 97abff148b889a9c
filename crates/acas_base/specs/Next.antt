-- What an aircraft advises against another one in its next cycle.
use Rattle.std.specs.Prelude.{ℕ, ◌+◌, Bool, true, false, not, ◌&&◌, ◌||◌, if◌then◌else◌, nat_le, nat_lt}
use Rattle.acas_base.specs.Choice.{chosen_sense, strongest, least_strength, strength_after, has_to_reverse}
use Rattle.acas_base.specs.Complements.{forbids}
use Rattle.acas_base.specs.Senses.{other_sense, holds_of}
use Rattle.acas_base.specs.Strengths.{meets_floor}
use Rattle.acas_base.specs.declared.advisory.Cell.{Cell}
use Rattle.acas_base.specs.declared.advisory.Cell.TheVariants.{Clear, Traffic, Ra}
use Rattle.acas_base.specs.declared.advisory.Intent.{Intent}
use Rattle.acas_base.specs.declared.advisory.Rank.{Rank}
use Rattle.acas_base.specs.declared.advisory.Rank.TheVariants.{First, Second, Free}
use Rattle.acas_base.specs.declared.advisory.Sense.{Sense}
use Rattle.acas_base.specs.declared.advisory.Sense.TheVariants.{Up, Down}
use Rattle.acas_base.specs.declared.advisory.Strength.{Strength}
use Rattle.acas_base.specs.declared.advisory.Vrc.{Vrc}
use Rattle.acas_base.specs.declared.advisory.Vrc.TheVariants.{Nil, NotBelow, NotAbove}
use Rattle.acas_base.specs.declared.choice.Choice.TheVariants.{Fresh}
use Rattle.acas_base.specs.declared.craft.Kind.{Kind}
use Rattle.acas_base.specs.declared.craft.Kind.TheVariants as kinds
use Rattle.acas_base.specs.declared.view.View.{View}

-- The rank of a pair, by the own address, the other's address and the other's kind. Against an aircraft that gives no
-- resolution advisories it is Free; else the lower address comes first.
abbrev pub rank_by : ℕ → ℕ → Kind → Rank
rank_by own other kinds.Ra = if nat_lt own other then First else Second
rank_by own other kinds.Ta = Free
rank_by own other kinds.Xpdr = Free

-- The sense in which an advisory starts: the sense that a complement in force doesn't forbid; without such a complement
-- the chosen sense.
abbrev pub starting_sense : View → Vrc → Sense
starting_sense view Nil = chosen_sense view
starting_sense view NotBelow = Up
starting_sense view NotAbove = Down

-- An advisory of this sense, strength and age. It is corrective where own rate doesn't meet the floor of its strength.
abbrev pub advisory : View → Sense → Strength → ℕ → Bool → Bool → Cell
advisory view sense strength age turned crossing =
    Ra (record { sense = sense; strength = strength; age = age; turned = turned; crossing = crossing; corrective = not (meets_floor view sense strength) })

-- A new advisory, of the least strength.
abbrev pub new_advisory : View → Sense → Cell
new_advisory view sense = advisory view sense (least_strength view sense Fresh) 1 false (holds_of view.crosses sense)

-- The advisory in the other sense, with the strongest strength of a fresh choice.
abbrev pub reversal_of : Intent → View → Bool → Cell
reversal_of before view turned =
    let sense = other_sense before.sense in
    advisory view sense (strongest view sense Fresh) (before.age + 1) turned (holds_of view.crosses sense)

-- The advisory in the same sense.
abbrev pub continuation_of : Intent → View → Cell
continuation_of before view = advisory view before.sense (strength_after before view) (before.age + 1) before.turned before.crossing

-- An advisory that goes on changes its sense in two cases alone. Of two aircraft of kind RA the one of higher address
-- changes it where the complement in force forbids it. Any other aircraft changes it once, by a reversal of its own.
abbrev pub changes_sense : Intent → View → Vrc → Rank → Bool
changes_sense before view complement Second = forbids complement before.sense
changes_sense before view complement First = has_to_reverse before view && not before.turned
changes_sense before view complement Free = has_to_reverse before view && not before.turned

-- `turned` after a change of sense: a reversal of its own sets it.
abbrev pub is_turned_after : Intent → Rank → Bool
is_turned_after before Second = before.turned
is_turned_after before First = true
is_turned_after before Free = true

abbrev pub continuing_cell : Intent → View → Vrc → Rank → Cell
continuing_cell before view complement rank =
    if changes_sense before view complement rank then reversal_of before view (is_turned_after before rank) else continuation_of before view

-- No resolution advisory: a traffic advisory, where its tests hold.
abbrev pub traffic_cell : View → Cell
traffic_cell view = if view.traffic then Traffic else Clear

-- Where there was no resolution advisory, one starts against a threat.
abbrev pub starting_cell : View → Vrc → Cell
starting_cell view complement = if view.threat then new_advisory view (starting_sense view complement) else traffic_cell view

-- An advisory ends where own aircraft doesn't resolve any more. It also ends where it is five cycles old and doesn't
-- last.
abbrev pub ends : Intent → View → Bool
ends before view = not view.resolves || (not view.lasts && nat_le 5 before.age)

abbrev pub cell_after : Cell → View → Vrc → Rank → Cell
cell_after Clear view complement rank = starting_cell view complement
cell_after Traffic view complement rank = starting_cell view complement
cell_after (Ra before) view complement rank = if ends before view then traffic_cell view else continuing_cell before view complement rank

-- The next cell of an aircraft for another one. It follows from the cell before, the view, the complement in force from
-- the other one, and the rank against it. Without tracks the cell is Clear.
abbrev pub following_cell : Cell → View → Vrc → Rank → Cell
following_cell before view complement rank = if view.tested then cell_after before view complement rank else Clear
