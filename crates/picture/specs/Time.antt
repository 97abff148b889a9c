-- The axis of time: a line and a label at each tick, the box of the lanes, and what the labels are.
use Rattle.std.specs.Prelude.{ℕ, ◌+◌, List, [], ◌∷◌, ◌++◌, codes, Option, Some, None}
use Rattle.page_marks.specs.Paints.{ink, letters, line_paint}
use Rattle.page_marks.specs.Places.{point_at}
use Rattle.page_marks.specs.Ticks.{time_ticks}
use Rattle.page_marks.specs.declared.tick_place.TickPlace.{TickPlace}
use Rattle.picture.specs.Layout.{course_top, plot_area, plot_bottom}
use Rattle.svg_text.specs.Marks.{Mark, figure, worded}
use Rattle.svg_text.specs.declared.shapes.Anchor.TheVariants as anchors
use Rattle.svg_text.specs.declared.shapes.Shape.TheVariants as shapes
use Rattle.svg_text.specs.declared.shapes.Weight.TheVariants as weights

-- Lines go through the altitudes and the lanes, and a little farther. The labels stand below them.
abbrev pub tick_place : ℕ → TickPlace
tick_place lanes = record { top = course_top; bottom = plot_bottom lanes + 100; label = plot_bottom lanes + 400; size = 260 }

-- With a clock the labels are times of day.
abbrev pub axis_name : Option ℕ → List ℕ
axis_name None = codes "cycle"
axis_name (Some second) = codes "time"

abbrev pub box_and_name : ℕ → List ℕ → List Mark
box_and_name lanes name =
    figure (shapes.Rect (plot_area lanes)) (line_paint ink 15) []
    ∷ worded (letters (point_at 9900 (plot_bottom lanes + 780)) 260 anchors.Middle weights.Regular) name [] ∷ []

abbrev pub time_marks : ℕ → Option ℕ → ℕ → List Mark
time_marks cycles start lanes = time_ticks cycles start (tick_place lanes) ++ box_and_name lanes (axis_name start)
