-- What a panel stands in, and a line of one point.
use Rattle.std.specs.Prelude.{ℕ, ◌+◌, List, [], ◌∷◌}
use Rattle.page_marks.specs.Paints.{ink, letters, line_paint, plain}
use Rattle.page_marks.specs.Places.{area_at, point_at}
use Rattle.svg_text.specs.Marks.{Mark, figure, worded}
use Rattle.svg_text.specs.declared.shapes.Anchor.TheVariants as anchors
use Rattle.svg_text.specs.declared.shapes.Color.{Color}
use Rattle.svg_text.specs.declared.shapes.Point.{Point}
use Rattle.svg_text.specs.declared.shapes.Shape.TheVariants as shapes
use Rattle.svg_text.specs.declared.shapes.Weight.TheVariants as weights

-- The box of a panel, so high, begins 500 below the top of the panel. Over it stand a heading at the left and a note at
-- the right.
abbrev pub frame_marks : ℕ → ℕ → List ℕ → List ℕ → List Mark
frame_marks top height heading note =
    worded (letters (point_at 2000 (top + 350)) 260 anchors.Start weights.Bold) heading []
    ∷ worded (letters (point_at 17800 (top + 350)) 240 anchors.End weights.Regular) note []
    ∷ figure (shapes.Rect (area_at 2000 (top + 500) 15800 height)) (line_paint ink 15) [] ∷ []

-- A line of one point is a dot.
abbrev pub dot_mark : Color → Point → List ℕ → Mark
dot_mark color point title = figure (shapes.Circle point 40) (plain color) title
