-- What the crew hears (the words: FAA, Introduction to TCAS II v7.1; punctuation, repeats and moments: this project's
-- profile).
use Rattle.std.specs.Prelude.{ℕ, Bool, true, false, not, ◌&&◌, ◌||◌, if◌then◌else◌, List, codes, Option, Some, None, is_some}
use Rattle.acas_base.specs.Senses.{other_sense}
use Rattle.acas_base.specs.declared.advisory.Sense.{Sense}
use Rattle.acas_base.specs.declared.advisory.Sense.TheVariants.{Up, Down}
use Rattle.acas_base.specs.declared.advisory.Strength.{Strength}
use Rattle.acas_base.specs.declared.advisory.Strength.TheVariants.{Limit2000, Limit1000, Limit500, Level, Positive, Increase}
use Rattle.advisory_report.specs.Composite.{has_both, is_same_strength}
use Rattle.advisory_report.specs.declared.composite.Composite.{Composite}
use Rattle.advisory_report.specs.declared.aural.Aural.{Aural}
use Rattle.advisory_report.specs.declared.aural.Aural.TheVariants as aurals

-- There is advice.
abbrev pub has_advice : Composite → Bool
has_advice composite = is_some composite.up || is_some composite.down

-- The word is TRAFFIC: traffic and no advice.
abbrev pub is_traffic_alone : Composite → Bool
is_traffic_alone composite = not (has_advice composite) && composite.traffic

-- The word is CLEAR: no advice and no traffic.
abbrev pub is_clear : Composite → Bool
is_clear composite = not (has_advice composite) && not composite.traffic

abbrev pub strength_in : Sense → Composite → Option Strength
strength_in Up composite = composite.up
strength_in Down composite = composite.down

abbrev pub is_same_advice : Option Strength → Option Strength → Bool
is_same_advice None None = true
is_same_advice None (Some other) = false
is_same_advice (Some one) None = false
is_same_advice (Some one) (Some other) = is_same_strength one other

-- The strengths of both senses stay, and the advice isn't newly corrective.
abbrev pub is_kept : Composite → Composite → Bool
is_kept before after = is_same_advice before.up after.up && (is_same_advice before.down after.down && (before.corrective || not after.corrective))

-- The sense, where there is advice of one sense.
abbrev pub sense_of_advice : Composite → Sense
sense_of_advice composite = if is_some composite.up then Up else Down

-- There is advice of this sense and strength.
abbrev pub has : Strength → Sense → Composite → Bool
has strength sense composite = is_same_advice (Some strength) (strength_in sense composite)

abbrev pub for_sense : Sense → Aural → Aural → Aural
for_sense Up climb descend = climb
for_sense Down climb descend = descend

-- The phrase where the advice is of one sense and isn't kept. The first line that applies gives it. From the fifth line
-- on the strength is Positive, since the lines before have all other ones.
abbrev pub aural_in : Sense → Composite → Composite → Aural
aural_in sense before after =
    if has Limit2000 sense after || (has Limit1000 sense after || has Limit500 sense after) then aurals.Monitor
    else (if has Level sense after && (after.corrective || (has Positive sense before || has Increase sense before)) then aurals.LevelOff
    else (if has Level sense after then aurals.Monitor
    else (if has Increase sense after then for_sense sense aurals.IncreaseClimb aurals.IncreaseDescent
    else (if is_some (strength_in (other_sense sense) before) && not (is_some (strength_in sense before)) then for_sense sense aurals.ClimbNow aurals.DescendNow
    else (if not after.corrective then aurals.Maintain
    else (if after.crossing then for_sense sense aurals.ClimbCrossing aurals.DescendCrossing
    else for_sense sense aurals.ClimbClimb aurals.DescendDescend))))))

-- The phrase from one composite to the next. The first line that applies gives it.
abbrev pub aural_of : Composite → Composite → Aural
aural_of before after =
    if not (has_advice after) && has_advice before then aurals.ClearOfConflict
    else (if is_traffic_alone after && is_clear before then aurals.TrafficTraffic
    else (if not (has_advice after) then aurals.Silent
    else (if is_kept before after then aurals.Silent
    else (if has_both after.up after.down then aurals.LevelOff
    else aural_in (sense_of_advice after) before after))))

abbrev pub phrase_text : Aural → List ℕ
phrase_text aurals.TrafficTraffic = codes "Traffic traffic"
phrase_text aurals.ClimbClimb = codes "Climb climb"
phrase_text aurals.DescendDescend = codes "Descend descend"
phrase_text aurals.ClimbCrossing = codes "Climb crossing climb"
phrase_text aurals.DescendCrossing = codes "Descend crossing descend"
phrase_text aurals.IncreaseClimb = codes "Increase climb"
phrase_text aurals.IncreaseDescent = codes "Increase descent"
phrase_text aurals.ClimbNow = codes "Climb climb NOW"
phrase_text aurals.DescendNow = codes "Descend descend NOW"
phrase_text aurals.Maintain = codes "Maintain vertical speed maintain"
phrase_text aurals.LevelOff = codes "Level off level off"
phrase_text aurals.Monitor = codes "Monitor vertical speed"
phrase_text aurals.ClearOfConflict = codes "Clear of conflict"
phrase_text aurals.Silent = codes "-"
