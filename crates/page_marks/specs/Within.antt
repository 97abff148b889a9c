-- Marks that lie within bounds.
use Rattle.std.specs.Prelude.{ℕ, pos, ◌+ℤ◌, ◌≤◌, ◌≤ℤ◌}
use Rattle.std.specs.List.{AllByRecursion}
use Rattle.svg_text.specs.Documents.{Section}
use Rattle.svg_text.specs.Marks.{Mark, figure, traced, worded}
use Rattle.svg_text.specs.declared.shapes.Area.{Area}
use Rattle.svg_text.specs.declared.shapes.Point.{Point}
use Rattle.svg_text.specs.declared.shapes.Shape.{Shape}
use Rattle.svg_text.specs.declared.shapes.Shape.TheVariants as shapes

-- A rectangle of the page: its left and upper edge, and its right and lower one.
pub record Bounds : Type 0 where
  pub left : ℕ
  pub top : ℕ
  pub right : ℕ
  pub bottom : ℕ

-- Bounds that lie within others.
pub record AreInside (inner outer : Bounds) : Type 0 where
  pub left : outer.left ≤ inner.left
  pub top : outer.top ≤ inner.top
  pub right : inner.right ≤ outer.right
  pub bottom : inner.bottom ≤ outer.bottom

-- A point lies within bounds, and so far from each edge at least.
pub record IsWithin (bounds : Bounds) (margin : ℕ) (point : Point) : Type 0 where
  pub left : (pos bounds.left +ℤ pos margin) ≤ℤ point.x
  pub right : (point.x +ℤ pos margin) ≤ℤ pos bounds.right
  pub top : (pos bounds.top +ℤ pos margin) ≤ℤ point.y
  pub bottom : (point.y +ℤ pos margin) ≤ℤ pos bounds.bottom

abbrev pub far_corner : Area → Point
far_corner area = record { x = area.corner.x +ℤ pos area.width; y = area.corner.y +ℤ pos area.height }

abbrev pub IsShapeWithin : Bounds → Shape → Type 0
IsShapeWithin bounds (shapes.Rect area) = IsWithin bounds 0 area.corner × IsWithin bounds 0 (far_corner area)
IsShapeWithin bounds (shapes.Segment from to) = IsWithin bounds 0 from × IsWithin bounds 0 to
IsShapeWithin bounds (shapes.Circle center radius) = IsWithin bounds radius center

-- All places that a mark names lie within bounds.
abbrev pub IsMarkWithin : Bounds → Mark → Type 0
IsMarkWithin bounds (figure shape paint title) = IsShapeWithin bounds shape
IsMarkWithin bounds (traced outline points paint title) = AllByRecursion (IsWithin bounds 0) points
IsMarkWithin bounds (worded lettering words title) = IsWithin bounds 0 lettering.at

abbrev pub IsSectionWithin : Bounds → Section → Type 0
IsSectionWithin bounds section = AllByRecursion (IsMarkWithin bounds) section.marks
