-- A panel with the seconds that the tests of an aircraft against another one need.
use Rattle.std.specs.Prelude.{ℕ, ◌+◌, ◌*◌, List, [], ◌∷◌, ◌++◌, codes}
use Rattle.std.specs.Fmt.{decimal}
use Rattle.std.specs.List.{flat_map, range_with_len}
use Rattle.acas_base.specs.Encounter.{Parts, address_in}
use Rattle.labels.specs.Labels.{LabelWords, name_of}
use Rattle.page_marks.specs.Frame.{frame_marks}
use Rattle.page_marks.specs.Paints.{letters}
use Rattle.page_marks.specs.Places.{point_at}
use Rattle.page_marks.specs.Ticks.{time_ticks, value_tick_at}
use Rattle.page_marks.specs.declared.tick_place.TickPlace.{TickPlace}
use Rattle.seconds_panel.specs.Lines.{plot_bottom, plot_height, plot_top, second_y, series_marks, series_name, series_paint}
use Rattle.seconds_panel.specs.declared.own.TestedPair.{TestedPair}
use Rattle.seconds_panel.specs.declared.series.Series.{Series}
use Rattle.seconds_panel.specs.declared.series.Series.TheVariants.{TrafficRange, ResolutionRange, ResolutionAltitude, TrafficTau, ResolutionTau}
use Rattle.svg_text.specs.Marks.{Mark, figure, worded}
use Rattle.svg_text.specs.declared.shapes.Anchor.TheVariants as anchors
use Rattle.svg_text.specs.declared.shapes.Shape.TheVariants as shapes
use Rattle.svg_text.specs.declared.shapes.Weight.TheVariants as weights

-- ---- words

unfoldable pub heading_text : List ℕ → List ℕ → List ℕ
heading_text own other = own ++ codes " against " ++ other ++ codes ": seconds that its tests need"

abbrev pub note_text : List ℕ
note_text = codes "an advisory where range and altitude are within tau"

-- What an aircraft is called.
abbrev pub called : Parts → LabelWords → ℕ → List ℕ
called e labels index = name_of labels (address_in e.crafts index)

-- ---- marks

-- How much of the page the panel takes.
abbrev pub panel_height : ℕ
panel_height = 3100

-- Where the ticks of time stand.
abbrev pub tick_place : ℕ → TickPlace
tick_place top = record { top = plot_top top; bottom = plot_bottom top; label = plot_bottom top + 300; size = 240 }

-- A tick at 0, 20, 40, 60 and 80 s.
unfoldable pub tick_text : ℕ → List ℕ
tick_text seconds = decimal seconds ++ codes " s"

unfoldable pub second_tick : ℕ → ℕ → List Mark
second_tick top number = value_tick_at (second_y top (20 * number)) (tick_text (20 * number))

abbrev pub second_ticks : ℕ → List Mark
second_ticks top = flat_map (second_tick top) (range_with_len 0 5)

-- A name right of the box, and below it how its line is drawn.
unfoldable pub legend_at : ℕ → Series → List Mark
legend_at y series =
    worded (letters (point_at 17900 y) 220 anchors.Start weights.Regular) (series_name series) []
    ∷ figure (shapes.Segment (point_at 17900 (y + 100)) (point_at 19300 (y + 100))) (series_paint series) (series_name series) ∷ []

abbrev pub legend_marks : ℕ → List Mark
legend_marks top =
    legend_at (top + 700) TrafficRange
    ++ (legend_at (top + 1100) TrafficTau
    ++ (legend_at (top + 1500) ResolutionRange
    ++ (legend_at (top + 1900) ResolutionAltitude
    ++ legend_at (top + 2300) ResolutionTau)))

-- The lines: tau first, so that the others lie over it, and the solid line below the two broken ones.
unfoldable pub lines_marks : ℕ → Parts → TestedPair → List ℕ → List ℕ → List Mark
lines_marks top e pair own other =
    series_marks top e pair own other TrafficTau
    ++ (series_marks top e pair own other ResolutionTau
    ++ (series_marks top e pair own other ResolutionRange
    ++ (series_marks top e pair own other TrafficRange
    ++ series_marks top e pair own other ResolutionAltitude)))

-- All marks of the panel, of aircraft with these names.
abbrev pub named_marks : ℕ → Parts → LabelWords → TestedPair → List ℕ → List ℕ → List Mark
named_marks top e labels pair own other =
    second_ticks top
    ++ (time_ticks e.cycles labels.start (tick_place top)
    ++ (frame_marks top plot_height (heading_text own other) note_text
    ++ (legend_marks top
    ++ lines_marks top e pair own other)))

unfoldable pub seconds_marks : ℕ → Parts → LabelWords → TestedPair → List Mark
seconds_marks top e labels pair = named_marks top e labels pair (called e labels pair.own) (called e labels pair.other)
