-- What is round the marks of a drawing, and its whole text.
use Rattle.std.specs.Prelude.{ℕ, ◌/◌, pos, List, [], ◌∷◌, ◌++◌, None, codes}
use Rattle.std.specs.Fmt.{decimal}
use Rattle.std.specs.List.{flat_map}
use Rattle.svg_text.specs.Attributes.{Setting, area_settings, end_tag, set, set_size, start_tag}
use Rattle.svg_text.specs.Escaped.{escaped}
use Rattle.svg_text.specs.Marks.{Mark, end_line, figure, marks_lines, start_line, title_line}
use Rattle.svg_text.specs.declared.document.Frame.{Frame}
use Rattle.svg_text.specs.declared.names.Attribute.TheVariants as attributes
use Rattle.svg_text.specs.declared.names.Element.TheVariants as elements
use Rattle.svg_text.specs.declared.shapes.Clip.{Clip}
use Rattle.svg_text.specs.declared.shapes.Clip.TheVariants as clips
use Rattle.svg_text.specs.declared.shapes.Color.{Color}
use Rattle.svg_text.specs.declared.shapes.Fill.TheVariants as fills
use Rattle.svg_text.specs.declared.shapes.Shape.TheVariants as shapes

-- ---- the head

-- The view box begins at 0, 0.
unfoldable pub view_text : Frame → List ℕ
view_text frame = codes "0 0 " ++ decimal frame.width ++ codes " " ++ decimal frame.height

-- Families of letters that nearly every computer has. Nothing is fetched.
abbrev pub families : List ℕ
families = codes "Helvetica,Arial,'Liberation Sans','DejaVu Sans',sans-serif"

unfoldable pub kind_settings : List Setting
kind_settings = set attributes.Namespace (codes "http://www.w3.org/2000/svg") ∷ set attributes.Version (codes "1.1") ∷ []

unfoldable pub view_settings : Frame → List Setting
view_settings frame = set attributes.ViewBox (view_text frame) ∷ []

-- A browser shows twenty units as one pixel at first.
unfoldable pub shown_settings : Frame → List Setting
shown_settings frame = set_size attributes.Width (frame.width / 20) ∷ set_size attributes.Height (frame.height / 20) ∷ []

unfoldable pub style_settings : List Setting
style_settings = set attributes.FontFamily families ∷ set attributes.LineJoin (codes "round") ∷ []

abbrev pub root_settings : Frame → List Setting
root_settings frame = kind_settings ++ view_settings frame ++ shown_settings frame ++ style_settings

abbrev pub description_line : List ℕ → List ℕ
description_line words = start_tag elements.Desc [] ++ escaped words ++ end_tag elements.Desc ++ codes "\n"

-- White stripes that run down to the right.
abbrev pub pattern_settings : List Setting
pattern_settings =
    set attributes.Id (codes "hatching") ∷ set attributes.Width (codes "120") ∷ set attributes.Height (codes "120") ∷ set attributes.PatternUnits (codes "userSpaceOnUse")
    ∷ set attributes.PatternTransform (codes "rotate(45)") ∷ []

abbrev pub stripe_settings : List Setting
stripe_settings = set attributes.Width (codes "30") ∷ set attributes.Height (codes "120") ∷ set attributes.Fill (codes "#FFFFFF") ∷ set attributes.FillOpacity (codes "0.55") ∷ []

abbrev pub clip_settings : List Setting
clip_settings = set attributes.Id (codes "window") ∷ []

abbrev pub window_line : Frame → List ℕ
window_line frame = start_line elements.Rect (area_settings frame.window)

abbrev pub pattern_lines : List (List ℕ)
pattern_lines =
    start_line elements.Pattern pattern_settings ∷ start_line elements.Rect stripe_settings ∷ end_line elements.Rect ∷ end_line elements.Pattern ∷ []

abbrev pub clip_lines : Frame → List (List ℕ)
clip_lines frame = start_line elements.ClipPath clip_settings ∷ window_line frame ∷ end_line elements.Rect ∷ end_line elements.ClipPath ∷ []

-- What other marks refer to: the stripes, and the window.
abbrev pub definition_lines : Frame → List (List ℕ)
definition_lines frame = start_line elements.Defs [] ∷ ((pattern_lines ++ clip_lines frame) ++ end_line elements.Defs ∷ [])

abbrev pub white : Color
white = record { red = 255; green = 255; blue = 255 }

-- A white rectangle as large as the drawing.
abbrev pub background : Frame → Mark
background frame =
    figure (shapes.Rect (record { corner = record { x = pos 0; y = pos 0 }; width = frame.width; height = frame.height })) (record { fill = fills.Plain white; stroke = None }) []

abbrev pub head_lines : Frame → List ℕ → List ℕ → List (List ℕ)
head_lines frame title description =
    start_line elements.Svg (root_settings frame) ∷ title_line title ∷ description_line description ∷ (definition_lines frame ++ marks_lines (background frame ∷ []))

-- ---- sections

-- Marks that belong together.
pub record Section : Type 0 where
  pub clip : Clip
  pub marks : List Mark

abbrev pub section_settings : Clip → List Setting
section_settings clips.Whole = []
section_settings clips.Window = set attributes.ClipPath (codes "url(#window)") ∷ []

abbrev pub start_of_section : Clip → List ℕ
start_of_section clip = start_line elements.Group (section_settings clip)

abbrev pub end_of_section : List ℕ
end_of_section = end_line elements.Group

abbrev pub section_lines : Section → List (List ℕ)
section_lines section = start_of_section section.clip ∷ (marks_lines section.marks ++ end_of_section ∷ [])

abbrev pub end_of_drawing : List ℕ
end_of_drawing = end_line elements.Svg

abbrev pub sections_lines : List Section → List (List ℕ)
sections_lines sections = flat_map section_lines sections

-- The whole text: the head, the sections, and the last tag.
abbrev pub drawing_lines : Frame → List ℕ → List ℕ → List Section → List (List ℕ)
drawing_lines frame title description sections = head_lines frame title description ++ (sections_lines sections ++ end_of_drawing ∷ [])
