-- The marks of a drawing, and their lines.
use Rattle.std.specs.Prelude.{ℕ, List, [], ◌∷◌, ◌++◌, codes, map}
use Rattle.std.specs.Fmt.{signed_decimal}
use Rattle.std.specs.List.{flat_map}
use Rattle.svg_text.specs.Attributes.{Setting, closing, end_tag, lettering_settings, opening, outline_element, paint_settings, settings_text, shape_element, shape_settings, start_tag}
use Rattle.svg_text.specs.Escaped.{escaped}
use Rattle.svg_text.specs.Names.{element_name}
use Rattle.svg_text.specs.declared.names.Attribute.TheVariants as attributes
use Rattle.svg_text.specs.declared.names.Element.{Element}
use Rattle.svg_text.specs.declared.names.Element.TheVariants as elements
use Rattle.svg_text.specs.declared.shapes.Lettering.{Lettering}
use Rattle.svg_text.specs.declared.shapes.Outline.{Outline}
use Rattle.svg_text.specs.declared.shapes.Paint.{Paint}
use Rattle.svg_text.specs.declared.shapes.Point.{Point}
use Rattle.svg_text.specs.declared.shapes.Shape.{Shape}

-- A mark: a shape, what is drawn through points, or words. Each has a title; an empty one is none.
pub data Mark : Type 0 where
  figure : Shape → Paint → List ℕ → Mark
  traced : Outline → List Point → Paint → List ℕ → Mark
  worded : Lettering → List ℕ → List ℕ → Mark

-- The lines of the two tags of an element.
abbrev pub start_line : Element → List Setting → List ℕ
start_line element settings = start_tag element settings ++ codes "\n"

abbrev pub end_line : Element → List ℕ
end_line element = end_tag element ++ codes "\n"

abbrev pub title_line : List ℕ → List ℕ
title_line title = start_tag elements.Title [] ++ escaped title ++ end_tag elements.Title ++ codes "\n"

-- The line of a title, where it isn't empty.
abbrev pub title_lines : List ℕ → List (List ℕ)
title_lines [] = []
title_lines (byte ∷ rest) = title_line (byte ∷ rest) ∷ []

abbrev pub words_line : List ℕ → List ℕ
words_line words = escaped words ++ codes "\n"

abbrev pub shape_line : Shape → Paint → List ℕ
shape_line shape paint = start_line (shape_element shape) (shape_settings shape ++ paint_settings paint)

abbrev pub lettering_line : Lettering → List ℕ
lettering_line lettering = start_line elements.Text (lettering_settings lettering)

abbrev pub point_line : Point → List ℕ
point_line point = signed_decimal point.x ++ codes "," ++ signed_decimal point.y ++ codes "\n"

abbrev pub point_lines : List Point → List (List ℕ)
point_lines points = map point_line points

-- What stands before the points and after them.
abbrev pub before_points : Outline → List ℕ
before_points outline = codes "<" ++ element_name (outline_element outline) ++ opening attributes.Points ++ codes "\n"

abbrev pub after_points : Paint → List ℕ
after_points paint = closing ++ settings_text (paint_settings paint) ++ codes ">\n"

abbrev pub figure_lines : Shape → Paint → List ℕ → List (List ℕ)
figure_lines shape paint title =
    shape_line shape paint ∷ title_lines title ++ end_line (shape_element shape) ∷ []

abbrev pub ending_lines : Outline → Paint → List ℕ → List (List ℕ)
ending_lines outline paint title = after_points paint ∷ title_lines title ++ end_line (outline_element outline) ∷ []

abbrev pub traced_lines : Outline → List Point → Paint → List ℕ → List (List ℕ)
traced_lines outline points paint title = before_points outline ∷ point_lines points ++ ending_lines outline paint title

abbrev pub worded_lines : Lettering → List ℕ → List ℕ → List (List ℕ)
worded_lines lettering words title =
    lettering_line lettering ∷ title_lines title ++ words_line words ∷ end_line elements.Text ∷ []

unfoldable pub mark_lines : Mark → List (List ℕ)
mark_lines (figure shape paint title) = figure_lines shape paint title
mark_lines (traced outline points paint title) = traced_lines outline points paint title
mark_lines (worded lettering words title) = worded_lines lettering words title

unfoldable pub marks_lines : List Mark → List (List ℕ)
marks_lines marks = flat_map mark_lines marks
