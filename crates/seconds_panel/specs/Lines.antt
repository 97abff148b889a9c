-- The lines of the panel: how each is drawn, and where it passes.
use Rattle.std.specs.Prelude.{ℕ, ◌+◌, ◌-◌, ◌==◌, if◌then◌else◌, min, pos, List, [], ◌∷◌, ◌++◌, codes, map, unwrap_or}
use Rattle.std.specs.Fmt.{decimal}
use Rattle.std.specs.List.{flat_map, range_with_len}
use Rattle.acas_base.specs.Encounter.{Parts}
use Rattle.equal_rows.specs.declared.row.Row.{Row}
use Rattle.page_marks.specs.Frame.{dot_mark}
use Rattle.page_marks.specs.Paints.{amber, dashed_paint, ink, vermilion}
use Rattle.page_marks.specs.Places.{point_at}
use Rattle.plot_axes.specs.Scale.{along}
use Rattle.plot_axes.specs.Time.{begin_of}
use Rattle.seconds_panel.specs.Seconds.{told_rows, value_in}
use Rattle.seconds_panel.specs.declared.own.TestedPair.{TestedPair}
use Rattle.seconds_panel.specs.declared.series.Series.{Series}
use Rattle.seconds_panel.specs.declared.series.Series.TheVariants.{TrafficRange, ResolutionRange, ResolutionAltitude, TrafficTau, ResolutionTau}
use Rattle.svg_text.specs.Marks.{Mark, traced}
use Rattle.svg_text.specs.declared.shapes.Color.{Color}
use Rattle.svg_text.specs.declared.shapes.Dash.{Dash}
use Rattle.svg_text.specs.declared.shapes.Dash.TheVariants as dashes
use Rattle.svg_text.specs.declared.shapes.Outline.TheVariants as outlines
use Rattle.svg_text.specs.declared.shapes.Paint.{Paint}
use Rattle.svg_text.specs.declared.shapes.Point.{Point}

-- ---- how a line is drawn

abbrev pub series_name : Series → List ℕ
series_name TrafficRange = codes "TA range"
series_name ResolutionRange = codes "RA range"
series_name ResolutionAltitude = codes "RA altitude"
series_name TrafficTau = codes "TA tau"
series_name ResolutionTau = codes "RA tau"

abbrev pub series_color : Series → Color
series_color TrafficRange = amber
series_color ResolutionRange = vermilion
series_color ResolutionAltitude = ink
series_color TrafficTau = amber
series_color ResolutionTau = vermilion

-- No two lines have the same dashes, so they differ in grey as well.
abbrev pub series_dash : Series → Dash
series_dash TrafficRange = dashes.LongAndDot
series_dash ResolutionRange = dashes.Solid
series_dash ResolutionAltitude = dashes.Dotted
series_dash TrafficTau = dashes.Short
series_dash ResolutionTau = dashes.Long

abbrev pub series_paint : Series → Paint
series_paint series = dashed_paint (series_color series) 35 (series_dash series)

-- ---- where it passes

abbrev pub plot_height : ℕ
plot_height = 2000

abbrev pub plot_top : ℕ → ℕ
plot_top top = top + 500

abbrev pub plot_bottom : ℕ → ℕ
plot_bottom top = top + 2500

-- The axis ends at 80 s. More is drawn there.
abbrev pub most_seconds : ℕ
most_seconds = 80

unfoldable pub second_y : ℕ → ℕ → ℕ
second_y top seconds = plot_bottom top - along plot_height (pos 0) (pos most_seconds) (pos (min seconds most_seconds))

-- The place of what a line tells in a cycle.
unfoldable pub value_point : ℕ → Parts → TestedPair → Series → ℕ → Point
value_point top e pair series cycle = point_at (begin_of e.cycles cycle) (second_y top (unwrap_or (value_in e pair series cycle) 0))

-- How many cycles a row has.
abbrev pub row_length : Row → ℕ
row_length row = (row.last + 1) - row.first

-- A line through the places of a row.
abbrev pub row_line : ℕ → Parts → TestedPair → Series → Row → List ℕ → Mark
row_line top e pair series row title = traced outlines.Open (map (value_point top e pair series) (range_with_len row.first (row_length row))) (series_paint series) title

-- The same, and a dot where the row has one cycle.
unfoldable pub row_mark : ℕ → Parts → TestedPair → Series → Row → List ℕ → Mark
row_mark top e pair series row title =
    if row.first == row.last then dot_mark (series_color series) (value_point top e pair series row.first) title else row_line top e pair series row title

-- What a row shows, of two aircraft with these names.
unfoldable pub row_title : List ℕ → List ℕ → Series → Row → List ℕ
row_title own other series row =
    own ++ codes " against " ++ other ++ codes ": " ++ series_name series ++ codes ", cycles " ++ decimal row.first ++ codes " to " ++ decimal row.last

unfoldable pub row_marks : ℕ → Parts → TestedPair → List ℕ → List ℕ → Series → Row → List Mark
row_marks top e pair own other series row = row_mark top e pair series row (row_title own other series row) ∷ []

-- The line of a series: a mark for each row.
unfoldable pub series_marks : ℕ → Parts → TestedPair → List ℕ → List ℕ → Series → List Mark
series_marks top e pair own other series = flat_map (row_marks top e pair own other series) (told_rows e pair series)
