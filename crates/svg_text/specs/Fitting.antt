-- The numbers of marks fit their types.
use Rattle.std.specs.Prelude.{◌<◌, ◌≤◌, ◌^◌, Option, IfSome, unsigned_abs}
use Rattle.std.specs.List.{AllByRecursion}
use Rattle.svg_text.specs.Marks.{Mark, figure, traced, worded}
use Rattle.svg_text.specs.Documents.{Section}
use Rattle.svg_text.specs.declared.document.Frame.{Frame}
use Rattle.svg_text.specs.declared.shapes.Area.{Area}
use Rattle.svg_text.specs.declared.shapes.Lettering.{Lettering}
use Rattle.svg_text.specs.declared.shapes.Paint.{Paint}
use Rattle.svg_text.specs.declared.shapes.Point.{Point}
use Rattle.svg_text.specs.declared.shapes.Shape.{Shape}
use Rattle.svg_text.specs.declared.shapes.Shape.TheVariants as shapes
use Rattle.svg_text.specs.declared.shapes.Stroke.{Stroke}

pub record IsPoint (point : Point) : Type 0 where
  pub x : unsigned_abs point.x ≤ 2 ^ 31
  pub y : unsigned_abs point.y ≤ 2 ^ 31

pub record IsArea (area : Area) : Type 0 where
  pub corner : IsPoint area.corner
  pub width : area.width < 2 ^ 32
  pub height : area.height < 2 ^ 32

abbrev pub FitsShape : Shape → Type 0
FitsShape (shapes.Rect area) = IsArea area
FitsShape (shapes.Segment from to) = IsPoint from × IsPoint to
FitsShape (shapes.Circle center radius) = IsPoint center × (radius < 2 ^ 16)

abbrev pub FitsStroke : Option Stroke → Type 0
FitsStroke stroke = IfSome stroke (λ (s : Stroke). s.width < 2 ^ 16)

abbrev pub FitsPaint : Paint → Type 0
FitsPaint paint = FitsStroke paint.stroke

pub record FitsLettering (it : Lettering) : Type 0 where
  pub at : IsPoint it.at
  pub size : it.size < 2 ^ 16
  pub paint : FitsPaint it.paint

abbrev pub FitsMark : Mark → Type 0
FitsMark (figure shape paint title) = FitsShape shape × FitsPaint paint
FitsMark (traced outline points paint title) = AllByRecursion IsPoint points × FitsPaint paint
FitsMark (worded lettering words title) = FitsLettering lettering

pub record FitsFrame (frame : Frame) : Type 0 where
  pub width : frame.width < 2 ^ 32
  pub height : frame.height < 2 ^ 32
  pub window : IsArea frame.window

abbrev pub FitsSection : Section → Type 0
FitsSection section = AllByRecursion FitsMark section.marks
