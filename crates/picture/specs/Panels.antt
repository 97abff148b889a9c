-- The panels of the two aircraft that come nearest, below the axis of time; and where the plan marks these.
use Rattle.std.specs.Prelude.{ℕ, ◌+◌, List, [], ◌++◌, Option, Some, None}
use Rattle.acas_base.specs.Encounter.{Parts}
use Rattle.acas_base.specs.declared.setting.Profile.{Profile}
use Rattle.acas_base.specs.declared.setting.Profile.TheVariants.{One, Two}
use Rattle.labels.specs.Labels.{LabelWords}
use Rattle.pair_panels.specs.Panel.{distance_marks, panel_height}
use Rattle.pair_panels.specs.declared.distance.Distance.TheVariants.{Slant, Vertical}
use Rattle.pair_panels.specs.declared.nearest.NearPair.{NearPair}
use Rattle.plan_panel.specs.declared.panel.Approach.{Approach}
use Rattle.seconds_panel.specs.Own.{own_of}
use Rattle.seconds_panel.specs.Panel.{seconds_marks, panel_height as seconds_height}
use Rattle.seconds_panel.specs.declared.own.TestedPair.{TestedPair}
use Rattle.svg_text.specs.Marks.{Mark}

-- The panel of the seconds tells the tests of profile 1 alone. In profile 2 it takes no room, and is for no pair.
abbrev pub tests_height : Profile → ℕ
tests_height One = seconds_height
tests_height Two = 0

abbrev pub told_pair : Profile → Option TestedPair → Option TestedPair
told_pair One tested = tested
told_pair Two tested = None

-- How much of the page they take: none where there is no such pair.
abbrev pub panels_height : Profile → Option NearPair → ℕ
panels_height profile None = 0
panels_height profile (Some pair) = panel_height + panel_height + tests_height profile

-- Their slant range, and below it their vertical distance.
abbrev pub both_marks : ℕ → LabelWords → Parts → NearPair → List Mark
both_marks top it e pair = distance_marks top e it Slant pair ++ distance_marks (top + panel_height) e it Vertical pair

-- The seconds that the tests of own aircraft need.
abbrev pub tested_marks : ℕ → LabelWords → Parts → Option TestedPair → List Mark
tested_marks top it e None = []
tested_marks top it e (Some tested) = seconds_marks top e it tested

-- All three.
abbrev pub three_marks : ℕ → LabelWords → Parts → NearPair → List Mark
three_marks top it e pair = both_marks top it e pair ++ tested_marks (top + panel_height + panel_height) it e (told_pair e.profile (own_of e pair.one pair.other))

abbrev pub panel_marks : ℕ → LabelWords → Parts → Option NearPair → List Mark
panel_marks top it e None = []
panel_marks top it e (Some pair) = three_marks top it e pair

-- Where they are nearest.
abbrev pub approach_of : Option NearPair → Option Approach
approach_of None = None
approach_of (Some pair) = Some (record { one = pair.one; other = pair.other; cycle = pair.cycle })
