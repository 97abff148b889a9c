-- A panel with a distance of two aircraft against time.
use Rattle.std.specs.Prelude.{ℕ, ◌+◌, ◌-◌, ◌*◌, ◌/◌, ◌%◌, ◌==◌, if◌then◌else◌, pos, List, [], ◌∷◌, ◌++◌, codes, map}
use Rattle.std.specs.Fmt.{decimal}
use Rattle.std.specs.List.{flat_map, range_with_len}
use Rattle.acas_base.specs.Encounter.{Parts, address_in}
use Rattle.labels.specs.Labels.{LabelWords, name_of}
use Rattle.page_marks.specs.Frame.{dot_mark, frame_marks}
use Rattle.page_marks.specs.Paints.{dashed_paint, ink, letters, line_paint}
use Rattle.page_marks.specs.Places.{point_at}
use Rattle.page_marks.specs.Ticks.{time_ticks, value_tick_at}
use Rattle.page_marks.specs.Words.{when_text}
use Rattle.page_marks.specs.declared.tick_place.TickPlace.{TickPlace}
use Rattle.pair_panels.specs.Distances.{aim_of, distance_in, end_of, ticks_of}
use Rattle.pair_panels.specs.declared.distance.Distance.{Distance}
use Rattle.pair_panels.specs.declared.distance.Distance.TheVariants.{Slant, Vertical}
use Rattle.pair_panels.specs.declared.ticks.Ticks.{Ticks}
use Rattle.pair_panels.specs.declared.nearest.NearPair.{NearPair}
use Rattle.plot_axes.specs.Scale.{along}
use Rattle.plot_axes.specs.Time.{begin_of}
use Rattle.svg_text.specs.Marks.{Mark, figure, traced, worded}
use Rattle.svg_text.specs.declared.shapes.Anchor.TheVariants as anchors
use Rattle.svg_text.specs.declared.shapes.Dash.TheVariants as dashes
use Rattle.svg_text.specs.declared.shapes.Outline.TheVariants as outlines
use Rattle.svg_text.specs.declared.shapes.Point.{Point}
use Rattle.svg_text.specs.declared.shapes.Shape.TheVariants as shapes
use Rattle.svg_text.specs.declared.shapes.Weight.TheVariants as weights

-- ---- words

abbrev pub distance_name : Distance → List ℕ
distance_name Slant = codes "slant range"
distance_name Vertical = codes "vertical distance"

-- What a panel shows of two aircraft with these names.
unfoldable pub heading_text : List ℕ → List ℕ → Distance → List ℕ
heading_text one other distance = one ++ codes " and " ++ other ++ codes ": " ++ distance_name distance

unfoldable pub value_text : Distance → ℕ → List ℕ
value_text distance value = distance_name distance ++ codes " " ++ decimal value ++ codes " ft"

-- When they are nearest, and what a distance is then.
unfoldable pub closest_text : Distance → List ℕ → ℕ → List ℕ
closest_text distance when value = codes "closest approach: " ++ when ++ codes ", " ++ value_text distance value

unfoldable pub aim_text : ℕ → List ℕ
aim_text aim = codes "ALIM " ++ decimal aim ++ codes " ft"

-- A part of a nautical mile, in quarters.
abbrev pub quarters_text : ℕ → List ℕ
quarters_text quarters = if quarters == 0 then [] else codes "." ++ decimal (25 * quarters)

unfoldable pub miles_text : ℕ → List ℕ
miles_text quarters = decimal (quarters / 4) ++ quarters_text (quarters % 4) ++ codes " NM"

unfoldable pub feet_text : ℕ → List ℕ
feet_text feet = decimal feet ++ codes " ft"

-- A tick of slant ranges is a whole number of quarters of a nautical mile.
abbrev pub tick_text : Distance → ℕ → List ℕ
tick_text Slant feet = miles_text (feet / 1519)
tick_text Vertical feet = feet_text feet

-- ---- where things stand below the top of a panel

abbrev pub plot_height : ℕ
plot_height = 2300

abbrev pub plot_top : ℕ → ℕ
plot_top top = top + 500

abbrev pub plot_bottom : ℕ → ℕ
plot_bottom top = top + 2800

abbrev pub panel_height : ℕ
panel_height = 3400

-- How far down a distance stands.
unfoldable pub value_y : ℕ → Ticks → ℕ → ℕ
value_y top ticks value = plot_bottom top - along plot_height (pos 0) (pos (end_of ticks)) (pos value)

-- ---- marks

-- The tick with a number, and its distance.
unfoldable pub value_tick : ℕ → Distance → Ticks → ℕ → List Mark
value_tick top distance ticks number = value_tick_at (value_y top ticks (number * ticks.step)) (tick_text distance (number * ticks.step))

abbrev pub value_ticks : ℕ → Distance → Ticks → List Mark
value_ticks top distance ticks = flat_map (value_tick top distance ticks) (range_with_len 0 (ticks.count + 1))

-- Where the ticks of time stand.
abbrev pub tick_place : ℕ → TickPlace
tick_place top = record { top = plot_top top; bottom = plot_bottom top; label = plot_bottom top + 300; size = 240 }

-- The place of the distance in a cycle.
unfoldable pub value_point : ℕ → Parts → Distance → NearPair → Ticks → ℕ → Point
value_point top e distance pair ticks cycle = point_at (begin_of e.cycles cycle) (value_y top ticks (distance_in e distance pair cycle))

-- A line through the distances of all cycles.
abbrev pub line_mark : ℕ → Parts → Distance → NearPair → Ticks → List ℕ → Mark
line_mark top e distance pair ticks title = traced outlines.Open (map (value_point top e distance pair ticks) (range_with_len 1 e.cycles)) (line_paint ink 30) title

-- The same, and a dot where there is one cycle alone.
unfoldable pub curve : ℕ → Parts → Distance → NearPair → Ticks → List ℕ → Mark
curve top e distance pair ticks title =
    if e.cycles == 1 then dot_mark ink (value_point top e distance pair ticks 1) title else line_mark top e distance pair ticks title

-- What the distance is held against.
abbrev pub aim_at : ℕ → List ℕ → List Mark
aim_at y words =
    figure (shapes.Segment (point_at 2000 y) (point_at 17800 y)) (dashed_paint ink 20 dashes.Long) words
    ∷ worded (letters (point_at 17900 (y + 80)) 240 anchors.Start weights.Regular) words [] ∷ []

unfoldable pub aim_marks : ℕ → Ticks → ℕ → List Mark
aim_marks top ticks aim = if aim == 0 then [] else aim_at (value_y top ticks aim) (aim_text aim)

-- The cycle in which they are nearest, and the distance in it.
abbrev pub closest_marks : ℕ → ℕ → ℕ → List ℕ → List Mark
closest_marks top x y title =
    figure (shapes.Segment (point_at x (plot_top top)) (point_at x (plot_bottom top))) (dashed_paint ink 15 dashes.Dotted) title
    ∷ figure (shapes.Circle (point_at x y) 80) (line_paint ink 25) title ∷ []

abbrev pub address_of : Parts → ℕ → ℕ
address_of e index = address_in e.crafts index

-- What an aircraft is called.
abbrev pub called : Parts → LabelWords → ℕ → List ℕ
called e labels index = name_of labels (address_of e index)

-- The texts of a panel.
abbrev pub heading_of : Parts → LabelWords → Distance → NearPair → List ℕ
heading_of e labels distance pair = heading_text (called e labels pair.one) (called e labels pair.other) distance

abbrev pub closest_of : Parts → LabelWords → Distance → NearPair → List ℕ
closest_of e labels distance pair = closest_text distance (when_text labels.start pair.cycle) (distance_in e distance pair pair.cycle)

-- All marks of a panel, with given ticks.
abbrev pub plot_marks : ℕ → Parts → LabelWords → Distance → NearPair → Ticks → List Mark
plot_marks top e labels distance pair ticks =
    value_ticks top distance ticks
    ++ (time_ticks e.cycles labels.start (tick_place top)
    ++ (frame_marks top plot_height (heading_of e labels distance pair) (closest_of e labels distance pair)
    ++ (aim_marks top ticks (aim_of e distance pair)
    ++ (closest_marks top (begin_of e.cycles pair.cycle) (value_y top ticks (distance_in e distance pair pair.cycle)) (closest_of e labels distance pair)
    ++ curve top e distance pair ticks (heading_of e labels distance pair) ∷ []))))

unfoldable pub distance_marks : ℕ → Parts → LabelWords → Distance → NearPair → List Mark
distance_marks top e labels distance pair = plot_marks top e labels distance pair (ticks_of e distance pair)
