-- The choice of sense and strength, from one view (FAA, Introduction to TCAS II v7.1; the details are this project's
-- profile).
use Rattle.std.specs.Prelude.{Bool, not, ◌&&◌, ◌||◌, if◌then◌else◌, ℤ, pos, neg_ℤ, int_lt, int_le, nat_le, nat_lt, List, slice_index_or, find, unwrap_or}
use Rattle.acas_base.specs.Senses.{other_sense, holds_of}
use Rattle.acas_base.specs.Strengths.{place_of, is_at_most, is_fresh, weakest_first, strongest_first, is_allowed}
use Rattle.acas_base.specs.declared.advisory.Intent.{Intent}
use Rattle.acas_base.specs.declared.advisory.Sense.{Sense}
use Rattle.acas_base.specs.declared.advisory.Sense.TheVariants.{Up, Down}
use Rattle.acas_base.specs.declared.advisory.Strength.{Strength}
use Rattle.acas_base.specs.declared.advisory.Strength.TheVariants.{Level, Positive, Increase}
use Rattle.acas_base.specs.declared.choice.Choice.{Choice}
use Rattle.acas_base.specs.declared.choice.Choice.TheVariants.{Fresh, Steady, Urgent}
use Rattle.acas_base.specs.declared.view.Seps.{Seps}
use Rattle.acas_base.specs.declared.view.View.{View}

abbrev pub separations_of : Seps → Sense → List ℤ
separations_of seps Up = seps.up
separations_of seps Down = seps.down

-- The separation at closest approach of a sense and a strength. It goes by the first response where the choice is
-- fresh, else by the later one.
abbrev pub separation_of : View → Sense → Strength → Choice → ℤ
separation_of view sense strength choice = slice_index_or (separations_of (if is_fresh choice then view.first else view.later) sense) (place_of strength) (pos 0)

-- The strength gives ALIM: its separation is at least ALIM.
abbrev pub gives_alim : View → Sense → Strength → Choice → Bool
gives_alim view sense strength choice = int_le view.alim (separation_of view sense strength choice)

-- The strongest strength that the choice may take. Level is always allowed.
abbrev pub strongest : View → Sense → Choice → Strength
strongest view sense choice = unwrap_or (find (λ strength. is_allowed view sense strength choice) strongest_first) Level

-- The least strength: the weakest allowed one that gives ALIM, or the strongest allowed one where none does.
abbrev pub least_strength : View → Sense → Choice → Strength
least_strength view sense choice = unwrap_or (find (λ strength. is_allowed view sense strength choice && gives_alim view sense strength choice) weakest_first) (strongest view sense choice)

-- The separation that the strongest allowed strength of a fresh choice gives in this sense.
abbrev pub best_separation : View → Sense → ℤ
best_separation view sense = separation_of view sense (strongest view sense Fresh) Fresh

-- The chosen sense. It is the sense that doesn't cross the other's altitude, unless that sense doesn't give ALIM and
-- the other sense gives more. Where a complement is in force, an advisory may start in another sense: see
-- `starting_sense`.
abbrev pub chosen_sense : View → Sense
chosen_sense view =
    let crossing = other_sense view.side in
    if not (int_le view.alim (best_separation view view.side)) && int_lt (best_separation view view.side) (best_separation view crossing)
    then crossing else view.side

-- The present separation of a sense.
abbrev pub present_separation : View → Sense → ℤ
present_separation view Up = view.gap
present_separation view Down = neg_ℤ view.gap

-- A sense has ALIM at present: its present separation is at least ALIM.
abbrev pub has_alim : View → Sense → Bool
has_alim view sense = int_le view.alim (present_separation view sense)

-- Level is enough: the sense has ALIM at present. Where the view looks ahead, Level with the later response gives ALIM,
-- too.
abbrev pub has_enough_by_level : View → Sense → Bool
has_enough_by_level view sense = has_alim view sense && (not view.looks_ahead || gives_alim view sense Level Steady)

-- The advisory weakens to Level: it is old enough, it is Level or stronger, and the other aircraft passes far away or
-- Level is enough.
abbrev pub weakens : Intent → View → Bool
weakens before view = nat_le view.settled_at before.age && (is_at_most Level before.strength && (view.far || has_enough_by_level view before.sense))

-- An allowed strength that is at least as strong as both of two others.
abbrev pub reaches_both : View → Sense → Choice → Strength → Strength → Strength → Bool
reaches_both view sense choice one two strength = is_allowed view sense strength choice && (is_at_most one strength && is_at_most two strength)

-- The weakest of these, or the strongest allowed strength where there is none.
abbrev pub least_of_both : View → Sense → Choice → Strength → Strength → Strength
least_of_both view sense choice one two = unwrap_or (find (reaches_both view sense choice one two) weakest_first) (strongest view sense choice)

-- The choice after an advisory. It is fresh where the advisory was weaker than Positive. Else it is urgent where the
-- sense hurries, or the advisory was an Increase.
abbrev pub choice_after : Intent → View → Choice
choice_after before view =
    if nat_lt (place_of before.strength) (place_of Positive) then Fresh
    else if holds_of view.hurries before.sense || is_at_most Increase before.strength then Urgent
    else Steady

-- The next strength in the same sense: Level where the advisory weakens. Else it doesn't grow weaker, and it is at
-- least the least strength of the present view.
abbrev pub strength_after : Intent → View → Strength
strength_after before view =
    let choice = choice_after before view in
    if weakens before view then Level else least_of_both view before.sense choice before.strength (least_strength view before.sense choice)

-- A geometric reversal is called for. At least four seconds are left. With the later response the present sense can't
-- give enough any more, and the other sense can give ALIM.
abbrev pub calls_for_reversal : View → Sense → Bool
calls_for_reversal view sense =
    nat_le 8 view.halves
    && (int_lt (separation_of view sense (strongest view sense Urgent) Urgent) view.enough
    && gives_alim view (other_sense sense) (strongest view (other_sense sense) Fresh) Steady)

-- The advisory is in a vertical chase: it is at least twelve cycles old, and the view shows a chase in its sense.
abbrev pub is_chase : Intent → View → Bool
is_chase before view = nat_le 12 before.age && holds_of view.chases before.sense

-- The advisory has to change its sense, by geometry or since it is in a chase.
abbrev pub has_to_reverse : Intent → View → Bool
has_to_reverse before view = calls_for_reversal view before.sense || is_chase before view
