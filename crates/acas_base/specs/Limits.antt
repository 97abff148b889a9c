-- Limits on the vertical rate, and how far they separate two aircraft.
use Rattle.std.specs.Prelude.{◌≡◌, Bool, true, false}
use Rattle.acas_base.specs.Choice.{separation_of}
use Rattle.acas_base.specs.Strengths.{meets_floor}
use Rattle.acas_base.specs.declared.advisory.Sense.{Sense}
use Rattle.acas_base.specs.declared.advisory.Strength.{Strength}
use Rattle.acas_base.specs.declared.advisory.Strength.TheVariants.{Limit2000, Limit1000, Limit500, Level, Positive, Increase}
use Rattle.acas_base.specs.declared.choice.Choice.{Choice}
use Rattle.acas_base.specs.declared.view.View.{View}

-- A limit that is stricter than the limit to 2,000 ft/min: the limit to 1,000 or to 500 ft/min.
abbrev pub is_stricter_limit : Strength → Bool
is_stricter_limit Limit2000 = false
is_stricter_limit Limit1000 = true
is_stricter_limit Limit500 = true
is_stricter_limit Level = false
is_stricter_limit Positive = false
is_stricter_limit Increase = false

-- A limit that own rate meets already asks for own rate. Then own rate meets the weakest limit, too, and that also asks
-- for own rate. So both give the same separation.
abbrev pub LimitsAskForOwnRate : View → Type 0
LimitsAskForOwnRate view = (sense : Sense) (choice : Choice) (limit : Strength) →
    is_stricter_limit limit ≡ true → meets_floor view sense limit ≡ true → separation_of view sense limit choice ≡ separation_of view sense Limit2000 choice
