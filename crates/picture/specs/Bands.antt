-- Bands of advice at the lines of the altitudes: above the line for advice up, below it for advice down.
use Rattle.std.specs.Prelude.{ℕ, ◌+◌, ◌-◌, Bool, if◌then◌else◌, nat_lt, List, [], ◌∷◌, ◌++◌, length, map}
use Rattle.std.specs.List.{flat_map, range_with_len}
use Rattle.acas_base.specs.Encounter.{Parts}
use Rattle.acas_base.specs.declared.entry.Entry.{Entry}
use Rattle.advisory_report.specs.declared.composite.Composite.{Composite}
use Rattle.air_journal.specs.Airs.{address_of}
use Rattle.equal_rows.specs.declared.row.Row.{Row}
use Rattle.picture.specs.Altitude.{course_point, course_y}
use Rattle.picture.specs.Bars.{advised, bar_title}
use Rattle.picture.specs.Heights.{axis_of}
use Rattle.page_marks.specs.Places.{area_at, point_at}
use Rattle.picture.specs.Onsets.{onset_marks}
use Rattle.page_marks.specs.Paints.{amber, blue, hatched, line_paint, plain, purple, vermilion}
use Rattle.picture.specs.Shown.{shown_in, shown_rows}
use Rattle.page_marks.specs.declared.paints.Advised.{Advised}
use Rattle.page_marks.specs.declared.paints.Advised.TheVariants as kinds
use Rattle.picture.specs.declared.side.Side.{Side}
use Rattle.picture.specs.declared.side.Side.TheVariants.{Above, Below}
use Rattle.picture.specs.declared.span.Span.{Span}
use Rattle.plot_axes.specs.Time.{begin_of, middle_of}
use Rattle.svg_text.specs.Marks.{Mark, figure, traced}
use Rattle.svg_text.specs.declared.shapes.Area.{Area}
use Rattle.svg_text.specs.declared.shapes.Outline.TheVariants as outlines
use Rattle.svg_text.specs.declared.shapes.Paint.{Paint}
use Rattle.svg_text.specs.declared.shapes.Point.{Point}
use Rattle.svg_text.specs.declared.shapes.Shape.{Shape}
use Rattle.svg_text.specs.declared.shapes.Shape.TheVariants as shapes

-- ---- where a band lies

-- A place so far above another one or below it.
abbrev pub shifted : Side → ℕ → ℕ → ℕ
shifted Above depth y = y - depth
shifted Below depth y = y + depth

-- A band reaches from the beginning of the first cycle of a row to the end of its last one. The line itself ends where
-- the last cycle of the run begins.
abbrev pub reach_end : ℕ → Row → ℕ
reach_end cycles row = if nat_lt row.last cycles then row.last + 1 else cycles

-- It has more than one point of the line.
abbrev pub has_line : ℕ → Row → Bool
has_line cycles row = nat_lt row.first cycles

-- How many points of the line it has.
abbrev pub reach_length : ℕ → Row → ℕ
reach_length cycles row = (reach_end cycles row + 1) - row.first

-- The points of the line, in order of cycle.
unfoldable pub near_edge : Span → Parts → ℕ → Row → List Point
near_edge axis e own row = map (course_point axis e own) (range_with_len row.first (reach_length e.cycles row))

-- A point above the line or below it.
unfoldable pub edge_point : Span → Parts → ℕ → Side → ℕ → ℕ → Point
edge_point axis e own side depth cycle = point_at (begin_of e.cycles cycle) (shifted side depth (course_y axis e own cycle))

-- The same points above the line or below it, from the last cycle back to the first.
unfoldable pub far_edge : Span → Parts → ℕ → Side → ℕ → Row → List Point
far_edge axis e own side depth row = map (λ back. edge_point axis e own side depth (reach_end e.cycles row - back)) (range_with_len 0 (reach_length e.cycles row))

-- A row that begins in the last cycle of the run has one point of the line. Its band goes on to the middle of this cycle.
abbrev pub last_top : Side → ℕ → ℕ → ℕ
last_top Above depth y = y - depth
last_top Below depth y = y

abbrev pub last_width : ℕ → ℕ
last_width cycles = middle_of cycles cycles - begin_of cycles cycles

unfoldable pub last_area : Span → Parts → ℕ → Side → ℕ → Area
last_area axis e own side depth = area_at (begin_of e.cycles e.cycles) (last_top side depth (course_y axis e own e.cycles)) (last_width e.cycles) depth

unfoldable pub last_stripe : Span → Parts → ℕ → Shape
last_stripe axis e own = shapes.Segment (course_point axis e own e.cycles) (point_at (middle_of e.cycles e.cycles) (course_y axis e own e.cycles))

-- ---- its marks

unfoldable pub band : Span → Parts → ℕ → Row → List ℕ → Side → ℕ → Paint → List Mark
band axis e own row title side depth paint =
    if has_line e.cycles row
    then traced outlines.Closed (near_edge axis e own row ++ far_edge axis e own side depth row) paint title ∷ []
    else figure (shapes.Rect (last_area axis e own side depth)) paint title ∷ []

abbrev pub stripe_paint : Paint
stripe_paint = line_paint amber 120

-- Traffic is a stripe along the line.
unfoldable pub stripe : Span → Parts → ℕ → Row → List ℕ → List Mark
stripe axis e own row title =
    if has_line e.cycles row
    then traced outlines.Open (near_edge axis e own row) stripe_paint title ∷ []
    else figure (last_stripe axis e own) stripe_paint title ∷ []

-- Bands of corrective advice are twice as high as those of preventive advice.
abbrev pub band_depth : Composite → ℕ
band_depth composite = if composite.corrective then 150 else 75

-- Advice up lies above the line, advice down below it, and advice of both senses on both sides.
abbrev pub above_band : Span → Parts → ℕ → Row → List ℕ → ℕ → List Mark
above_band axis e own row title depth = band axis e own row title Above depth (plain blue)

abbrev pub below_band : Span → Parts → ℕ → Row → List ℕ → ℕ → List Mark
below_band axis e own row title depth = band axis e own row title Below depth (plain vermilion) ++ band axis e own row title Below depth hatched

abbrev pub both_bands : Span → Parts → ℕ → Row → List ℕ → ℕ → List Mark
both_bands axis e own row title depth = band axis e own row title Above depth (plain purple) ++ band axis e own row title Below depth (plain purple)

abbrev pub sided_band : Span → Parts → ℕ → Row → List ℕ → Advised → ℕ → List Mark
sided_band axis e own row title kinds.Traffic depth = stripe axis e own row title
sided_band axis e own row title kinds.Up depth = above_band axis e own row title depth
sided_band axis e own row title kinds.Down depth = below_band axis e own row title depth
sided_band axis e own row title kinds.Both depth = both_bands axis e own row title depth

-- ---- all of them

-- What one row of cycles has, by what is shown before it and in it.
unfoldable pub row_band : Span → Parts → ℕ → Row → List ℕ → Composite → Composite → List Mark
row_band axis e own row title before now =
    sided_band axis e own row title (advised now) (band_depth now)
    ++ onset_marks (begin_of e.cycles row.first) (course_y axis e own row.first) title before now

unfoldable pub band_of_row : Span → Parts → List Entry → ℕ → ℕ → Row → List Mark
band_of_row axis e journal own address row =
    row_band axis e own row (bar_title address row (shown_in journal own row.first)) (shown_in journal own (row.first - 1)) (shown_in journal own row.first)

unfoldable pub bands_of : Span → Parts → List Entry → ℕ → ℕ → List Mark
bands_of axis e journal own address = flat_map (band_of_row axis e journal own address) (shown_rows journal e.cycles own)

unfoldable pub craft_bands : Span → Parts → List Entry → ℕ → List Mark
craft_bands axis e journal own = bands_of axis e journal own (address_of e own)

abbrev pub bands_with : Span → Parts → List Entry → List Mark
bands_with axis e journal = flat_map (craft_bands axis e journal) (range_with_len 0 (length e.crafts))

abbrev pub bands_marks : Parts → List Entry → List Mark
bands_marks e journal = bands_with (axis_of e journal) e journal
