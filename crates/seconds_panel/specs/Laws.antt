-- What holds of the panel of seconds.
use Rattle.std.specs.Prelude.{◌≡◌, ℕ, ◌+◌, ◌*◌, ◌<◌, ◌≤◌, true, min, Some}
use Rattle.std.specs.List.{AllByRecursion}
use Rattle.acas_base.specs.Encounter.{Parts}
use Rattle.equal_rows.specs.Rows.{AreRows}
use Rattle.labels.specs.Labels.{LabelWords}
use Rattle.page_marks.specs.Places.{point_at}
use Rattle.page_marks.specs.Within.{Bounds, IsMarkWithin}
use Rattle.plot_axes.specs.Time.{begin_of}
use Rattle.seconds_panel.specs.Lines.{most_seconds, plot_bottom, plot_height, plot_top, second_y, value_point}
use Rattle.seconds_panel.specs.Panel.{panel_height, seconds_marks}
use Rattle.seconds_panel.specs.Seconds.{goes_on, is_told, told_rows, value_in}
use Rattle.seconds_panel.specs.declared.own.TestedPair.{TestedPair}
use Rattle.seconds_panel.specs.declared.series.Series.{Series}
use Rattle.svg_text.specs.Fitting.{FitsMark}

-- The part of the page below a top that the panel has.
abbrev pub bounds_from : ℕ → Bounds
bounds_from top = record { left = 0; top = top; right = 20000; bottom = top + panel_height }

-- All marks of the panel lie within its part of the page, and their numbers fit.
abbrev pub AreWithin : ℕ → Parts → LabelWords → TestedPair → Type 0
AreWithin top e labels pair = AllByRecursion (λ mark. IsMarkWithin (bounds_from top) mark × FitsMark mark) (seconds_marks top e labels pair)

-- A line has a mark for each longest row of cycles in which it tells something, in order, and no such cycle is left
-- out.
abbrev pub AreLines : Parts → TestedPair → Series → Type 0
AreLines e pair series = AreRows (is_told e pair series) (goes_on e pair series) e.cycles 0 (told_rows e pair series)

-- So many seconds, but at most 80, stand at their share of the height above the lower edge of the box, with a loss of
-- less than one unit.
pub record IsShown (top seconds y : ℕ) : Type 0 where
  pub above : plot_top top ≤ y
  pub below : y ≤ plot_bottom top
  pub not_past : plot_bottom top * most_seconds ≤ plot_height * min seconds most_seconds + y * most_seconds
  pub near : plot_height * min seconds most_seconds + y * most_seconds < (plot_bottom top + 1) * most_seconds

-- Where a line tells something, its point stands where the cycle begins, at what it tells.
pub record HasPoint (top : ℕ) (e : Parts) (pair : TestedPair) (series : Series) (cycle : ℕ) : Type 0 where
  pub seconds : ℕ
  pub told : value_in e pair series cycle ≡ Some seconds
  pub point : value_point top e pair series cycle ≡ point_at (begin_of e.cycles cycle) (second_y top seconds)
  pub shown : IsShown top seconds (second_y top seconds)

abbrev pub ArePoints : ℕ → Parts → TestedPair → Series → Type 0
ArePoints top e pair series = (cycle : ℕ) → is_told e pair series cycle ≡ true → HasPoint top e pair series cycle

-- More seconds stand no lower.
abbrev pub AreInOrder : ℕ → Type 0
AreInOrder top = (less more : ℕ) → less ≤ more → second_y top more ≤ second_y top less
