-- The ticks of a panel: lines of the grid, and what stands beside them.
use Rattle.std.specs.Prelude.{ℕ, ◌+◌, ◌≤◌, ◌<◌, ◌^◌, if◌then◌else◌, List, [], ◌∷◌, Option}
use Rattle.std.specs.List.{AllByRecursion, flat_map, range_with_len}
use Rattle.page_marks.specs.Paints.{grid, letters, line_paint}
use Rattle.page_marks.specs.Places.{point_at}
use Rattle.page_marks.specs.Within.{Bounds, IsMarkWithin}
use Rattle.page_marks.specs.declared.tick_place.TickPlace.{TickPlace}
use Rattle.plot_axes.specs.Time.{begin_of, is_tick, label_of}
use Rattle.svg_text.specs.Fitting.{FitsMark}
use Rattle.svg_text.specs.Marks.{Mark, figure, worded}
use Rattle.svg_text.specs.declared.shapes.Anchor.TheVariants as anchors
use Rattle.svg_text.specs.declared.shapes.Shape.TheVariants as shapes
use Rattle.svg_text.specs.declared.shapes.Weight.TheVariants as weights

-- ---- time

-- A line so far to the right, and a label below it.
abbrev pub time_tick_at : TickPlace → ℕ → List ℕ → List Mark
time_tick_at place x label =
    figure (shapes.Segment (point_at x place.top) (point_at x place.bottom)) (line_paint grid 15) []
    ∷ worded (letters (point_at x place.label) place.size anchors.Middle weights.Regular) label [] ∷ []

-- The tick of a cycle, where one stands.
unfoldable pub time_tick : ℕ → Option ℕ → TickPlace → ℕ → List Mark
time_tick cycles start place cycle = if is_tick cycles start cycle then time_tick_at place (begin_of cycles cycle) (label_of start cycle) else []

-- Those of a run of so many cycles. With a clock, `start` is the second of the day in which cycle 1 is.
abbrev pub time_ticks : ℕ → Option ℕ → TickPlace → List Mark
time_ticks cycles start place = flat_map (time_tick cycles start place) (range_with_len 1 cycles)

-- ---- values

-- A line across the plot, so far down, and its value at the left.
abbrev pub value_tick_at : ℕ → List ℕ → List Mark
value_tick_at y words =
    figure (shapes.Segment (point_at 2000 y) (point_at 17800 y)) (line_paint grid 15) []
    ∷ worded (letters (point_at 1880 (y + 80)) 240 anchors.End weights.Regular) words [] ∷ []

-- ---- bounds

-- So far down is within bounds.
pub record IsHeight (bounds : Bounds) (y : ℕ) : Type 0 where
  pub above : bounds.top ≤ y
  pub below : y ≤ bounds.bottom

-- Bounds hold the axis of time, the ends of the lines and the labels. Their numbers and the size of the letters fit.
pub record HoldsTicks (bounds : Bounds) (place : TickPlace) : Type 0 where
  pub left : bounds.left ≤ 2000
  pub right : 17800 ≤ bounds.right
  pub top : IsHeight bounds place.top
  pub bottom : IsHeight bounds place.bottom
  pub label : IsHeight bounds place.label
  pub size : place.size < 2 ^ 16
  pub wide : bounds.right < 2 ^ 16
  pub tall : bounds.bottom < 2 ^ 16

-- All ticks of time lie within bounds, and their numbers fit.
abbrev pub AreTicksWithin : Bounds → ℕ → Option ℕ → TickPlace → Type 0
AreTicksWithin bounds cycles start place = AllByRecursion (λ mark. IsMarkWithin bounds mark × FitsMark mark) (time_ticks cycles start place)
