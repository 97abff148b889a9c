-- The altitude of each aircraft against time.
use Rattle.std.specs.Prelude.{ℕ, ◌+◌, ◌%◌, ◌==◌, if◌then◌else◌, ℤ, pos, ◌*ℤ◌, List, [], ◌∷◌, ◌++◌, codes, length, map, Some}
use Rattle.std.specs.Fmt.{signed_decimal}
use Rattle.std.specs.List.{flat_map, range_with_len}
use Rattle.acas_base.specs.Encounter.{Parts}
use Rattle.acas_base.specs.declared.entry.Entry.{Entry}
use Rattle.acas_text.specs.Hex.{hex}
use Rattle.air_journal.specs.Airs.{address_of}
use Rattle.labels.specs.Labels.{LabelWords, name_of}
use Rattle.picture.specs.Heights.{altitude_y, axis_of, height_in}
use Rattle.picture.specs.Layout.{course_area}
use Rattle.picture.specs.Modelled.{all_modelled_marks}
use Rattle.page_marks.specs.Frame.{dot_mark}
use Rattle.page_marks.specs.Places.{point_at}
use Rattle.page_marks.specs.Paints.{ink, letters, line_paint}
use Rattle.picture.specs.declared.span.Span.{Span}
use Rattle.plan_panel.specs.Marks.{dash_of}
use Rattle.plot_axes.specs.Time.{begin_of}
use Rattle.svg_text.specs.Marks.{Mark, figure, traced, worded}
use Rattle.svg_text.specs.declared.shapes.Anchor.TheVariants as anchors
use Rattle.svg_text.specs.declared.shapes.Fill.TheVariants as fills
use Rattle.svg_text.specs.declared.shapes.Outline.TheVariants as outlines
use Rattle.svg_text.specs.declared.shapes.Paint.{Paint}
use Rattle.svg_text.specs.declared.shapes.Point.{Point}
use Rattle.svg_text.specs.declared.shapes.Shape.TheVariants as shapes
use Rattle.svg_text.specs.declared.shapes.Weight.TheVariants as weights

-- Where an aircraft stands in a cycle.
unfoldable pub course_y : Span → Parts → ℕ → ℕ → ℕ
course_y axis e own cycle = altitude_y axis (height_in e own cycle)

unfoldable pub course_point : Span → Parts → ℕ → ℕ → Point
course_point axis e own cycle = point_at (begin_of e.cycles cycle) (course_y axis e own cycle)

abbrev pub course_paint : ℕ → Paint
course_paint own = record { fill = fills.Nothing; stroke = Some (record { color = ink; width = 30; dash = dash_of own }) }

-- The points of an aircraft, in order of cycle.
abbrev pub course_points : Span → Parts → ℕ → List Point
course_points axis e own = map (course_point axis e own) (range_with_len 1 e.cycles)

-- The names of aircraft stand in two columns, in turn.
unfoldable pub name_x : ℕ → ℕ
name_x own = if own % 2 == 0 then 17900 else 18950

-- A line through the points of an aircraft. It is a dot where the run has one cycle.
unfoldable pub course_line : Span → Parts → ℕ → List ℕ → List Mark
course_line axis e own title = if e.cycles == 1 then dot_mark ink (course_point axis e own 1) title ∷ [] else traced outlines.Open (course_points axis e own) (course_paint own) title ∷ []

-- The line, and beside its end what the aircraft is called.
abbrev pub named_course : Span → Parts → ℕ → ℕ → List ℕ → List Mark
named_course axis e own address name =
    course_line axis e own (hex 6 address)
    ++ worded (letters (point_at (name_x own) (course_y axis e own e.cycles + 80)) 240 anchors.Start weights.Regular) name [] ∷ []

unfoldable pub course_marks : Span → LabelWords → Parts → ℕ → List Mark
course_marks axis it e own = named_course axis e own (address_of e own) (name_of it (address_of e own))

abbrev pub courses : Span → LabelWords → Parts → List Mark
courses axis it e = flat_map (course_marks axis it e) (range_with_len 0 (length e.crafts))

-- An end of the axis, in ft.
unfoldable pub height_text : ℤ → List ℕ
height_text step = signed_decimal (step *ℤ pos 500) ++ codes " ft"

unfoldable pub axis_marks : Span → List Mark
axis_marks axis =
    figure (shapes.Rect course_area) (line_paint ink 15) []
    ∷ worded (letters (point_at 1880 1720) 260 anchors.End weights.Regular) (height_text axis.high) []
    ∷ worded (letters (point_at 1880 4700) 260 anchors.End weights.Regular) (height_text axis.low) [] ∷ []

-- The box, the flights as modelled, and over them the lines.
abbrev pub altitude_with : Span → LabelWords → Parts → List Entry → List Mark
altitude_with axis it e journal = axis_marks axis ++ (all_modelled_marks axis e journal ++ courses axis it e)

abbrev pub altitude_marks : LabelWords → Parts → List Entry → List Mark
altitude_marks it e journal = altitude_with (axis_of e journal) it e journal
