-- The marks of the plan.
use Rattle.std.specs.Prelude.{ℕ, ◌+◌, ◌-◌, ◌*◌, ◌/◌, ◌%◌, ◌<◌, ◌≤◌, ◌==◌, if◌then◌else◌, nat_lt, pos, List, [], ◌∷◌, ◌++◌, codes, length, map, Option, Some, None}
use Rattle.std.specs.Fmt.{decimal}
use Rattle.std.specs.List.{flat_map, range_with_len}
use Rattle.acas_base.specs.Encounter.{Parts, address_in}
use Rattle.acas_text.specs.Hex.{hex}
use Rattle.labels.specs.Labels.{LabelWords, name_of}
use Rattle.page_marks.specs.Paints.{dashed_paint, ink, letters, line_paint, plain}
use Rattle.page_marks.specs.Places.{area_at, point_at}
use Rattle.page_marks.specs.Words.{when_text}
use Rattle.plan_panel.specs.Names.{placed_name}
use Rattle.plan_panel.specs.Places.{box_height, box_left, box_top, box_width, plan_point, view_of, x_in, y_in}
use Rattle.plan_panel.specs.declared.panel.Approach.{Approach}
use Rattle.plot_axes.specs.Scale.{along}
use Rattle.plot_axes.specs.Steps.{step_for}
use Rattle.plot_axes.specs.Time.{is_tick}
use Rattle.svg_text.specs.Marks.{Mark, figure, traced, worded}
use Rattle.svg_text.specs.declared.shapes.Anchor.TheVariants as anchors
use Rattle.svg_text.specs.declared.shapes.Dash.{Dash}
use Rattle.svg_text.specs.declared.shapes.Dash.TheVariants as dashes
use Rattle.svg_text.specs.declared.shapes.Outline.TheVariants as outlines
use Rattle.svg_text.specs.declared.shapes.Paint.{Paint}
use Rattle.svg_text.specs.declared.shapes.Point.{Point}
use Rattle.svg_text.specs.declared.shapes.Shape.TheVariants as shapes
use Rattle.svg_text.specs.declared.shapes.Weight.TheVariants as weights

-- ---- words

abbrev pub heading : List ℕ
heading = codes "plan, north up"

-- An aircraft in a cycle.
unfoldable pub moment_text : ℕ → ℕ → List ℕ
moment_text address cycle = hex 6 address ++ codes ", cycle " ++ decimal cycle

unfoldable pub approach_text : ℕ → ℕ → List ℕ → List ℕ
approach_text one other when = codes "closest approach: " ++ hex 6 one ++ codes " and " ++ hex 6 other ++ codes ", " ++ when

-- A length in nautical miles of 6,076 ft: whole ones, or hundredths of one.
unfoldable pub length_text : ℕ → List ℕ
length_text feet = if nat_lt feet 6076 then codes "0." ++ decimal (100 * feet / 6076) ++ codes " NM" else decimal (feet / 6076) ++ codes " NM"

-- ---- the box and the scale

abbrev pub panel_height : ℕ
panel_height = 6600

abbrev pub frame_marks : ℕ → List Mark
frame_marks top =
    worded (letters (point_at box_left (top + 350)) 260 anchors.Start weights.Bold) heading []
    ∷ figure (shapes.Rect (area_at box_left (box_top top) box_width box_height)) (line_paint ink 15) [] ∷ []

-- Lengths in ft: 1/4, 1/2, 1, 2, 5, 10, 20, 50 and 100 NM.
abbrev pub lengths : List ℕ
lengths = 1519 ∷ 3038 ∷ 6076 ∷ 12152 ∷ 30380 ∷ 60760 ∷ 121520 ∷ 303800 ∷ 607600 ∷ []

-- The least of them of which eight reach over the width of the box.
unfoldable pub length_for : ℕ → ℕ
length_for whole = step_for whole 8 0 lengths

-- How long the line is that stands for such a length.
unfoldable pub bar_width : ℕ → ℕ
bar_width whole = along box_width (pos 0) (pos whole) (pos (length_for whole))

-- A line that ends over the right edge of the box, and what it stands for.
abbrev pub bar_at : ℕ → ℕ → List ℕ → List Mark
bar_at top x words =
    figure (shapes.Segment (point_at x (top + 270)) (point_at 8400 (top + 270))) (line_paint ink 50) words
    ∷ worded (letters (point_at (x - 120) (top + 350)) 240 anchors.End weights.Regular) words [] ∷ []

abbrev pub bar_marks : ℕ → ℕ → List Mark
bar_marks top whole = bar_at top (8400 - bar_width whole) (length_text (length_for whole))

-- ---- an aircraft

-- Four kinds of lines, in turn.
unfoldable pub dash_of : ℕ → Dash
dash_of own = if own % 4 == 0 then dashes.Solid else (if own % 4 == 1 then dashes.Long else (if own % 4 == 2 then dashes.Sparse else dashes.LongAndDot))

abbrev pub flight_paint : ℕ → Paint
flight_paint own = dashed_paint ink 30 (dash_of own)

abbrev pub dot : ℕ → ℕ → List ℕ → Mark
dot x y title = figure (shapes.Circle (point_at x y) 50) (plain ink) title

-- Its places in all cycles.
abbrev pub flight_points : ℕ → Parts → ℕ → List Point
flight_points top e own = map (plan_point top e own) (range_with_len 1 e.cycles)

-- A line through them. In a run of one cycle it is a dot.
unfoldable pub line_marks : ℕ → Parts → ℕ → List ℕ → List Mark
line_marks top e own title =
    if e.cycles == 1 then dot (x_in e own 1) (y_in top e own 1) title ∷ []
    else traced outlines.Open (flight_points top e own) (flight_paint own) title ∷ []

-- A dot where a tick of the axis of time stands.
unfoldable pub tick_marks : ℕ → Parts → Option ℕ → ℕ → ℕ → ℕ → List Mark
tick_marks top e start own address cycle =
    if is_tick e.cycles start cycle then dot (x_in e own cycle) (y_in top e own cycle) (moment_text address cycle) ∷ [] else []

abbrev pub ticks : ℕ → Parts → Option ℕ → ℕ → ℕ → List Mark
ticks top e start own address = flat_map (tick_marks top e start own address) (range_with_len 1 e.cycles)

-- A circle at its start.
abbrev pub start_marks : ℕ → ℕ → ℕ → List Mark
start_marks x y address = figure (shapes.Circle (point_at x y) 80) (line_paint ink 25) (moment_text address 1) ∷ []

abbrev pub flight_with : ℕ → Parts → Option ℕ → ℕ → ℕ → List ℕ → List Mark
flight_with top e start own address name =
    line_marks top e own (hex 6 address)
    ++ (ticks top e start own address
    ++ (start_marks (x_in e own 1) (y_in top e own 1) address
    ++ placed_name top e own name))

abbrev pub address_of : Parts → ℕ → ℕ
address_of e own = address_in e.crafts own

unfoldable pub flight_marks : ℕ → Parts → Option ℕ → LabelWords → ℕ → List Mark
flight_marks top e start labels own = flight_with top e start own (address_of e own) (name_of labels (address_of e own))

abbrev pub flights : ℕ → Parts → Option ℕ → LabelWords → List Mark
flights top e start labels = flat_map (flight_marks top e start labels) (range_with_len 0 (length e.crafts))

-- ---- the closest approach

-- Two aircraft of the encounter, and a cycle of its run.
pub record IsApproach (e : Parts) (it : Approach) : Type 0 where
  pub one : it.one < length e.crafts
  pub other : it.other < length e.crafts
  pub begun : 1 ≤ it.cycle
  pub in_run : it.cycle ≤ e.cycles

abbrev pub cross_marks : ℕ → ℕ → List ℕ → List Mark
cross_marks x y title =
    figure (shapes.Segment (point_at (x - 90) (y - 90)) (point_at (x + 90) (y + 90))) (line_paint ink 30) title
    ∷ figure (shapes.Segment (point_at (x - 90) (y + 90)) (point_at (x + 90) (y - 90))) (line_paint ink 30) title ∷ []

-- Two crosses, and a dotted line between them.
abbrev pub between_marks : Point → Point → List ℕ → List Mark
between_marks from to title = figure (shapes.Segment from to) (dashed_paint ink 20 dashes.Dotted) title ∷ []

abbrev pub approach_with : ℕ → Parts → Approach → List ℕ → List Mark
approach_with top e it title =
    cross_marks (x_in e it.one it.cycle) (y_in top e it.one it.cycle) title
    ++ (cross_marks (x_in e it.other it.cycle) (y_in top e it.other it.cycle) title
    ++ between_marks (plan_point top e it.one it.cycle) (plan_point top e it.other it.cycle) title)

abbrev pub approach_title : Parts → Option ℕ → Approach → List ℕ
approach_title e start it = approach_text (address_of e it.one) (address_of e it.other) (when_text start it.cycle)

unfoldable pub approach_marks : ℕ → Parts → Option ℕ → Option Approach → List Mark
approach_marks top e start None = []
approach_marks top e start (Some it) = approach_with top e it (approach_title e start it)

-- ---- all

-- What stands in the box.
abbrev pub flown_marks : ℕ → Parts → Option ℕ → LabelWords → Option Approach → List Mark
flown_marks top e start labels nearest = flights top e start labels ++ approach_marks top e start nearest

unfoldable pub plan_marks : ℕ → Parts → Option ℕ → LabelWords → Option Approach → List Mark
plan_marks top e start labels nearest = frame_marks top ++ (bar_marks top (view_of e).x.whole ++ flown_marks top e start labels nearest)
