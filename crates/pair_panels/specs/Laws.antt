-- What holds of the panels of a pair.
use Rattle.std.specs.Prelude.{ℕ, ◌+◌, ◌*◌, ◌<◌, ◌≤◌}
use Rattle.std.specs.List.{AllByRecursion}
use Rattle.acas_base.specs.Encounter.{Parts}
use Rattle.labels.specs.Labels.{LabelWords}
use Rattle.page_marks.specs.Within.{Bounds, IsMarkWithin}
use Rattle.pair_panels.specs.Distances.{aim_of, distance_in, end_of, ticks_of}
use Rattle.pair_panels.specs.Panel.{distance_marks, panel_height, plot_bottom, plot_height, plot_top, value_y}
use Rattle.pair_panels.specs.declared.distance.Distance.{Distance}
use Rattle.pair_panels.specs.declared.nearest.NearPair.{NearPair}
use Rattle.svg_text.specs.Fitting.{FitsMark}

-- The part of the page below a top that a panel has.
abbrev pub bounds_from : ℕ → Bounds
bounds_from top = record { left = 0; top = top; right = 20000; bottom = top + panel_height }

-- All marks of a panel lie within its part of the page, and their numbers fit.
abbrev pub AreWithin : ℕ → Parts → LabelWords → Distance → NearPair → Type 0
AreWithin top e labels distance pair = AllByRecursion (λ mark. IsMarkWithin (bounds_from top) mark × FitsMark mark) (distance_marks top e labels distance pair)

-- How far a distance stands above the lower edge of the box, times the value at the end of the axis, is no more than
-- its share of the height, and less than one unit below it.
pub record IsShown (top end value y : ℕ) : Type 0 where
  pub above : plot_top top ≤ y
  pub below : y ≤ plot_bottom top
  pub not_past : plot_bottom top * end ≤ plot_height * value + y * end
  pub near : plot_height * value + y * end < (plot_bottom top + 1) * end

-- The axis holds the distance of each cycle and what it is held against. Each stands at its place, with a loss of less
-- than one unit, and a greater distance stands no lower than a less one.
pub record AreShown (top : ℕ) (e : Parts) (distance : Distance) (pair : NearPair) : Type 0 where
  pub each : (cycle : ℕ) → 1 ≤ cycle → cycle ≤ e.cycles → IsShown top (end_of (ticks_of e distance pair)) (distance_in e distance pair cycle) (value_y top (ticks_of e distance pair) (distance_in e distance pair cycle))
  pub aim : IsShown top (end_of (ticks_of e distance pair)) (aim_of e distance pair) (value_y top (ticks_of e distance pair) (aim_of e distance pair))
  pub in_order : (less more : ℕ) → less ≤ more → more ≤ end_of (ticks_of e distance pair) → value_y top (ticks_of e distance pair) more ≤ value_y top (ticks_of e distance pair) less
