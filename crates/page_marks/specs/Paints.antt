-- How things are drawn. The colours are safe for colour-blind readers. In grey the boxes differ as well: traffic is
-- light, up is dark, down is hatched, and both is nearly white with a heavy edge.
use Rattle.std.specs.Prelude.{ℕ, List, [], ◌∷◌, Option, Some, None}
use Rattle.page_marks.specs.declared.paints.Advised.{Advised}
use Rattle.page_marks.specs.declared.paints.Advised.TheVariants as kinds
use Rattle.svg_text.specs.Marks.{Mark, figure}
use Rattle.svg_text.specs.declared.shapes.Anchor.{Anchor}
use Rattle.svg_text.specs.declared.shapes.Area.{Area}
use Rattle.svg_text.specs.declared.shapes.Color.{Color}
use Rattle.svg_text.specs.declared.shapes.Dash.{Dash}
use Rattle.svg_text.specs.declared.shapes.Dash.TheVariants as dashes
use Rattle.svg_text.specs.declared.shapes.Fill.TheVariants as fills
use Rattle.svg_text.specs.declared.shapes.Lettering.{Lettering}
use Rattle.svg_text.specs.declared.shapes.Paint.{Paint}
use Rattle.svg_text.specs.declared.shapes.Point.{Point}
use Rattle.svg_text.specs.declared.shapes.Shape.TheVariants as shapes
use Rattle.svg_text.specs.declared.shapes.Stroke.{Stroke}
use Rattle.svg_text.specs.declared.shapes.Turn.TheVariants as turns
use Rattle.svg_text.specs.declared.shapes.Weight.{Weight}

abbrev pub color : ℕ → ℕ → ℕ → Color
color red green blue = record { red = red; green = green; blue = blue }

abbrev pub ink : Color
ink = color 34 34 34

abbrev pub white : Color
white = color 255 255 255

abbrev pub grid : Color
grid = color 204 204 204

abbrev pub note : Color
note = color 119 119 119

abbrev pub amber : Color
amber = color 240 176 0

abbrev pub blue : Color
blue = color 0 114 178

abbrev pub vermilion : Color
vermilion = color 213 94 0

abbrev pub purple : Color
purple = color 142 69 133

abbrev pub pale_purple : Color
pale_purple = color 243 230 241

abbrev pub solid : Color → ℕ → Option Stroke
solid color width = Some (record { color = color; width = width; dash = dashes.Solid })

-- ---- lines

abbrev pub line_paint : Color → ℕ → Paint
line_paint color width = record { fill = fills.Nothing; stroke = solid color width }

abbrev pub dashed_paint : Color → ℕ → Dash → Paint
dashed_paint color width dash = record { fill = fills.Nothing; stroke = Some (record { color = color; width = width; dash = dash }) }

-- ---- boxes

abbrev pub filled : Color → Color → ℕ → Paint
filled inside edge width = record { fill = fills.Plain inside; stroke = solid edge width }

-- A colour without an edge.
abbrev pub plain : Color → Paint
plain inside = record { fill = fills.Plain inside; stroke = None }

abbrev pub box_paint : Advised → Paint
box_paint kinds.Traffic = filled amber ink 12
box_paint kinds.Up = filled blue ink 12
box_paint kinds.Down = filled vermilion ink 12
box_paint kinds.Both = filled pale_purple purple 50

abbrev pub hatched : Paint
hatched = record { fill = fills.Hatched; stroke = None }

-- White stripes over the box of advice to go down.
abbrev pub hatching : Advised → Area → List ℕ → List Mark
hatching kinds.Traffic area title = []
hatching kinds.Up area title = []
hatching kinds.Down area title = figure (shapes.Rect area) hatched title ∷ []
hatching kinds.Both area title = []

unfoldable pub box_marks : Advised → Area → List ℕ → List Mark
box_marks advised area title = figure (shapes.Rect area) (box_paint advised) title ∷ hatching advised area title

-- ---- words

abbrev pub letters : Point → ℕ → Anchor → Weight → Lettering
letters at size anchor weight = record {
  at = at;
  size = size;
  anchor = anchor;
  weight = weight;
  turn = turns.Level;
  paint = record { fill = fills.Plain ink; stroke = None };
}

-- What stands behind words, so that they can be read over a box.
abbrev pub halo : Point → ℕ → Anchor → Weight → Lettering
halo at size anchor weight = record {
  at = at;
  size = size;
  anchor = anchor;
  weight = weight;
  turn = turns.Level;
  paint = record { fill = fills.Plain white; stroke = solid white 70 };
}
