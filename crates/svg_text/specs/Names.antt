-- The names of elements and attributes.
use Rattle.std.specs.Prelude.{ℕ, List, codes}
use Rattle.svg_text.specs.declared.names.Attribute.{Attribute}
use Rattle.svg_text.specs.declared.names.Attribute.TheVariants as attributes
use Rattle.svg_text.specs.declared.names.Element.{Element}
use Rattle.svg_text.specs.declared.names.Element.TheVariants as elements

abbrev pub element_name : Element → List ℕ
element_name elements.Svg = codes "svg"
element_name elements.Title = codes "title"
element_name elements.Desc = codes "desc"
element_name elements.Defs = codes "defs"
element_name elements.Pattern = codes "pattern"
element_name elements.ClipPath = codes "clipPath"
element_name elements.Group = codes "g"
element_name elements.Rect = codes "rect"
element_name elements.Line = codes "line"
element_name elements.Circle = codes "circle"
element_name elements.Polyline = codes "polyline"
element_name elements.Polygon = codes "polygon"
element_name elements.Text = codes "text"

abbrev pub attribute_name : Attribute → List ℕ
attribute_name attributes.Namespace = codes "xmlns"
attribute_name attributes.Version = codes "version"
attribute_name attributes.ViewBox = codes "viewBox"
attribute_name attributes.FontFamily = codes "font-family"
attribute_name attributes.LineJoin = codes "stroke-linejoin"
attribute_name attributes.Id = codes "id"
attribute_name attributes.PatternUnits = codes "patternUnits"
attribute_name attributes.PatternTransform = codes "patternTransform"
attribute_name attributes.ClipPath = codes "clip-path"
attribute_name attributes.X = codes "x"
attribute_name attributes.Y = codes "y"
attribute_name attributes.Width = codes "width"
attribute_name attributes.Height = codes "height"
attribute_name attributes.X1 = codes "x1"
attribute_name attributes.Y1 = codes "y1"
attribute_name attributes.X2 = codes "x2"
attribute_name attributes.Y2 = codes "y2"
attribute_name attributes.CenterX = codes "cx"
attribute_name attributes.CenterY = codes "cy"
attribute_name attributes.Radius = codes "r"
attribute_name attributes.Points = codes "points"
attribute_name attributes.Fill = codes "fill"
attribute_name attributes.FillOpacity = codes "fill-opacity"
attribute_name attributes.Stroke = codes "stroke"
attribute_name attributes.StrokeWidth = codes "stroke-width"
attribute_name attributes.StrokeDashes = codes "stroke-dasharray"
attribute_name attributes.FontSize = codes "font-size"
attribute_name attributes.FontWeight = codes "font-weight"
attribute_name attributes.TextAnchor = codes "text-anchor"
attribute_name attributes.Transform = codes "transform"
