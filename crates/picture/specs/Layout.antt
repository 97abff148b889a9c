-- Where things stand, in units of the drawing, to the right and downward.
use Rattle.std.specs.Prelude.{ℕ, ◌+◌, ◌-◌, ◌*◌, ◌/◌, ◌≤◌, if◌then◌else◌, nat_le, nat_lt, List, filter, length, take}
use Rattle.acas_base.specs.Encounter.{is_active_kind}
use Rattle.acas_base.specs.declared.craft.CraftSpec.{CraftSpec}
use Rattle.page_marks.specs.Places.{area_at}
use Rattle.page_marks.specs.Within.{Bounds}
use Rattle.picture.specs.declared.layout.Lane.{Lane}
use Rattle.svg_text.specs.declared.document.Frame.{Frame}
use Rattle.svg_text.specs.declared.shapes.Area.{Area}

-- ---- lanes

-- How many aircraft of a list advise.
abbrev pub active_among : List CraftSpec → ℕ
active_among crafts = length (filter (λ (craft : CraftSpec). is_active_kind craft.kind) crafts)

-- How far it is from one lane to the next one, where there are so many: few have room, and sixteen fit.
unfoldable pub lane_pitch : ℕ → ℕ
lane_pitch lanes = if nat_le lanes 2 then 1200 else (if nat_le lanes 4 then 960 else (if nat_le lanes 8 then 740 else 560))

-- How high so many lanes are.
unfoldable pub lanes_height : ℕ → ℕ
lanes_height lanes = lane_pitch lanes * lanes

-- How high tall bars are, by the pitch: as high as leaves 240 to the next lane for messages, and at most 400.
unfoldable pub tall_in : ℕ → ℕ
tall_in pitch = if nat_lt pitch 640 then pitch - 240 else 400

-- A lane by the pitch and by its number, from 0. It is a strip as high as the pitch, and its tall bars stand in the
-- middle of the strip. The first strip begins 50 below the beginning of the lanes.
unfoldable pub lane_in : ℕ → ℕ → Lane
lane_in pitch number = record { base = 5150 + (pitch - tall_in pitch) / 2 + tall_in pitch + pitch * number; tall = tall_in pitch; room = pitch - tall_in pitch }

-- An aircraft that advises has a lane of its own, under those of the aircraft before it.
abbrev pub lane_of : List CraftSpec → ℕ → Lane
lane_of crafts own = lane_in (lane_pitch (active_among crafts)) (active_among (take own crafts))

-- A lane stands below the beginning of the lanes, and on the page.
pub record IsLane (lane : Lane) : Type 0 where
  pub top : 5500 ≤ lane.base
  pub bottom : lane.base ≤ 25200
  pub tall : lane.tall ≤ 400
  pub room : lane.room ≤ 880

-- ---- the page

abbrev pub page_width : ℕ
page_width = 20000

-- Where the box of the altitudes begins, how high it is, and where it ends.
abbrev pub course_top : ℕ
course_top = 1500

abbrev pub course_height : ℕ
course_height = 3200

abbrev pub course_bottom : ℕ
course_bottom = 4700

abbrev pub course_area : Area
course_area = area_at 2000 course_top 15800 course_height

-- Where the lanes begin, and where they end.
abbrev pub plot_top : ℕ
plot_top = 5100

abbrev pub plot_bottom : ℕ → ℕ
plot_bottom lanes = 5200 + lanes_height lanes

abbrev pub plot_height : ℕ → ℕ
plot_height lanes = 100 + lanes_height lanes

-- Where the panels of a pair begin: below the axis of time.
abbrev pub panels_top : ℕ → ℕ
panels_top lanes = 6150 + lanes_height lanes

-- How high the legend is. It begins where the plan ends.
abbrev pub legend_height : ℕ
legend_height = 2300

-- How high the page is without panels, without the plan and without a list of marks.
abbrev pub page_height : ℕ → ℕ
page_height lanes = 8450 + lanes_height lanes

-- The box in which the lanes stand.
abbrev pub plot_area : ℕ → Area
plot_area lanes = area_at 2000 plot_top 15800 (plot_height lanes)

-- The page, with so much more for panels, for the plan and for a list of marks.
abbrev pub frame_of : ℕ → ℕ → Frame
frame_of lanes below = record { width = page_width; height = page_height lanes + below; window = plot_area lanes }

-- The page down to a height.
abbrev pub bounds_to : ℕ → Bounds
bounds_to height = record { left = 0; top = 0; right = page_width; bottom = height }

-- The page without them.
abbrev pub bounds_of : ℕ → Bounds
bounds_of lanes = bounds_to (page_height lanes)

-- The whole page.
abbrev pub page_bounds : ℕ → ℕ → Bounds
page_bounds lanes below = bounds_to (page_height lanes + below)
