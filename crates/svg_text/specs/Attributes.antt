-- Attributes and their values.
use Rattle.std.specs.Prelude.{ℕ, ℤ, List, [], ◌∷◌, ◌++◌, Option, Some, None, codes}
use Rattle.std.specs.Fmt.{decimal, signed_decimal}
use Rattle.std.specs.List.{flat_map}
use Rattle.acas_text.specs.Hex.{hex}
use Rattle.svg_text.specs.Names.{attribute_name, element_name}
use Rattle.svg_text.specs.declared.names.Attribute.{Attribute}
use Rattle.svg_text.specs.declared.names.Attribute.TheVariants as attributes
use Rattle.svg_text.specs.declared.names.Element.{Element}
use Rattle.svg_text.specs.declared.names.Element.TheVariants as elements
use Rattle.svg_text.specs.declared.shapes.Anchor.{Anchor}
use Rattle.svg_text.specs.declared.shapes.Anchor.TheVariants as anchors
use Rattle.svg_text.specs.declared.shapes.Area.{Area}
use Rattle.svg_text.specs.declared.shapes.Color.{Color}
use Rattle.svg_text.specs.declared.shapes.Dash.{Dash}
use Rattle.svg_text.specs.declared.shapes.Dash.TheVariants as dashes
use Rattle.svg_text.specs.declared.shapes.Fill.{Fill}
use Rattle.svg_text.specs.declared.shapes.Fill.TheVariants as fills
use Rattle.svg_text.specs.declared.shapes.Lettering.{Lettering}
use Rattle.svg_text.specs.declared.shapes.Outline.{Outline}
use Rattle.svg_text.specs.declared.shapes.Outline.TheVariants as outlines
use Rattle.svg_text.specs.declared.shapes.Paint.{Paint}
use Rattle.svg_text.specs.declared.shapes.Point.{Point}
use Rattle.svg_text.specs.declared.shapes.Shape.{Shape}
use Rattle.svg_text.specs.declared.shapes.Shape.TheVariants as shapes
use Rattle.svg_text.specs.declared.shapes.Stroke.{Stroke}
use Rattle.svg_text.specs.declared.shapes.Turn.{Turn}
use Rattle.svg_text.specs.declared.shapes.Turn.TheVariants as turns
use Rattle.svg_text.specs.declared.shapes.Weight.{Weight}
use Rattle.svg_text.specs.declared.shapes.Weight.TheVariants as weights

-- An attribute and its value.
pub record Setting : Type 0 where
  pub name : Attribute
  pub value : List ℕ

abbrev pub set : Attribute → List ℕ → Setting
set name value = record { name = name; value = value }

abbrev pub set_number : Attribute → ℤ → Setting
set_number name number = set name (signed_decimal number)

abbrev pub set_size : Attribute → ℕ → Setting
set_size name size = set name (decimal size)

unfoldable pub opening : Attribute → List ℕ
opening name = codes " " ++ attribute_name name ++ codes "=\""

abbrev pub closing : List ℕ
closing = codes "\""

abbrev pub setting_text : Setting → List ℕ
setting_text setting = opening setting.name ++ setting.value ++ closing

abbrev pub settings_text : List Setting → List ℕ
settings_text settings = flat_map setting_text settings

-- The two tags of an element.
abbrev pub start_tag : Element → List Setting → List ℕ
start_tag element settings = codes "<" ++ element_name element ++ settings_text settings ++ codes ">"

abbrev pub end_tag : Element → List ℕ
end_tag element = codes "</" ++ element_name element ++ codes ">"

-- ---- paint

unfoldable pub color_text : Color → List ℕ
color_text color = codes "#" ++ hex 2 color.red ++ hex 2 color.green ++ hex 2 color.blue

abbrev pub fill_text : Fill → List ℕ
fill_text fills.Nothing = codes "none"
fill_text (fills.Plain color) = color_text color
fill_text fills.Hatched = codes "url(#hatching)"

abbrev pub dash_settings : Dash → List Setting
dash_settings dashes.Solid = []
dash_settings dashes.Long = set attributes.StrokeDashes (codes "260 100") ∷ []
dash_settings dashes.Short = set attributes.StrokeDashes (codes "100 70") ∷ []
dash_settings dashes.Sparse = set attributes.StrokeDashes (codes "40 90") ∷ []
dash_settings dashes.Dotted = set attributes.StrokeDashes (codes "20 50") ∷ []
dash_settings dashes.LongAndDot = set attributes.StrokeDashes (codes "300 90 40 90") ∷ []

abbrev pub stroke_settings : Option Stroke → List Setting
stroke_settings None = []
stroke_settings (Some stroke) = set attributes.Stroke (color_text stroke.color) ∷ set_size attributes.StrokeWidth stroke.width ∷ dash_settings stroke.dash

abbrev pub fill_setting : Fill → Setting
fill_setting fill = set attributes.Fill (fill_text fill)

abbrev pub paint_settings : Paint → List Setting
paint_settings paint = fill_setting paint.fill ∷ stroke_settings paint.stroke

-- ---- marks

abbrev pub point_settings : Attribute → Attribute → Point → List Setting
point_settings x y point = set_number x point.x ∷ set_number y point.y ∷ []

abbrev pub extent_settings : Area → List Setting
extent_settings area = set_size attributes.Width area.width ∷ set_size attributes.Height area.height ∷ []

abbrev pub area_settings : Area → List Setting
area_settings area = point_settings attributes.X attributes.Y area.corner ++ extent_settings area

abbrev pub shape_element : Shape → Element
shape_element (shapes.Rect area) = elements.Rect
shape_element (shapes.Segment from to) = elements.Line
shape_element (shapes.Circle center radius) = elements.Circle

abbrev pub shape_settings : Shape → List Setting
shape_settings (shapes.Rect area) = area_settings area
shape_settings (shapes.Segment from to) = point_settings attributes.X1 attributes.Y1 from ++ point_settings attributes.X2 attributes.Y2 to
shape_settings (shapes.Circle center radius) = point_settings attributes.CenterX attributes.CenterY center ++ set_size attributes.Radius radius ∷ []

abbrev pub outline_element : Outline → Element
outline_element outlines.Open = elements.Polyline
outline_element outlines.Closed = elements.Polygon

abbrev pub anchor_settings : Anchor → List Setting
anchor_settings anchors.Start = []
anchor_settings anchors.Middle = set attributes.TextAnchor (codes "middle") ∷ []
anchor_settings anchors.End = set attributes.TextAnchor (codes "end") ∷ []

abbrev pub weight_settings : Weight → List Setting
weight_settings weights.Regular = []
weight_settings weights.Bold = set attributes.FontWeight (codes "bold") ∷ []

unfoldable pub place_text : Point → List ℕ
place_text at = signed_decimal at.x ++ codes " " ++ signed_decimal at.y

-- Words that run upward are turned about their place.
unfoldable pub turn_text : Point → List ℕ
turn_text at = codes "rotate(-90 " ++ place_text at ++ codes ")"

abbrev pub turn_settings : Turn → Point → List Setting
turn_settings turns.Level at = []
turn_settings turns.Upward at = set attributes.Transform (turn_text at) ∷ []

abbrev pub place_settings : Lettering → List Setting
place_settings it = point_settings attributes.X attributes.Y it.at ++ set_size attributes.FontSize it.size ∷ []

abbrev pub lettering_settings : Lettering → List Setting
lettering_settings it = place_settings it ++ anchor_settings it.anchor ++ weight_settings it.weight ++ turn_settings it.turn it.at ++ paint_settings it.paint
