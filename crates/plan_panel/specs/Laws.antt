-- What holds of the plan.
use Rattle.std.specs.Prelude.{◌≡◌, ℕ, ◌+◌, ◌-◌, ◌*◌, ◌<◌, ◌≤◌, ◌≤ℤ◌, ◌-ℤ◌, true, false, unsigned_abs, length, Option}
use Rattle.std.specs.List.{AllByRecursion}
use Rattle.acas_base.specs.Encounter.{Parts}
use Rattle.flight.specs.Flight.{position}
use Rattle.labels.specs.Labels.{LabelWords}
use Rattle.page_marks.specs.Within.{Bounds, IsMarkWithin}
use Rattle.plan_panel.specs.Marks.{flown_marks, panel_height, plan_marks}
use Rattle.plan_panel.specs.Names.{has_room, lies_over}
use Rattle.plan_panel.specs.Places.{box_bottom, box_height, box_left, box_top, box_width, view_of, x_in, y_in}
use Rattle.plan_panel.specs.declared.panel.Approach.{Approach}
use Rattle.svg_text.specs.Fitting.{FitsMark}

-- The part of the page below a top that the panel has.
abbrev pub part_from : ℕ → Bounds
part_from top = record { left = 400; top = top; right = 8400; bottom = top + panel_height }

-- The box in it.
abbrev pub box_from : ℕ → Bounds
box_from top = record { left = box_left; top = box_top top; right = box_left + box_width; bottom = box_bottom top }

-- All marks of the panel lie within its part of the page, and their numbers fit. Those of the aircraft lie in the box.
pub record AreWithin (top : ℕ) (e : Parts) (start : Option ℕ) (labels : LabelWords) (nearest : Option Approach) : Type 0 where
  pub panel : AllByRecursion (λ mark. IsMarkWithin (part_from top) mark × FitsMark mark) (plan_marks top e start labels nearest)
  pub flown : AllByRecursion (IsMarkWithin (box_from top)) (flown_marks top e start labels nearest)

-- Two names stand so far apart, to the side or down.
abbrev pub AreApart : ℕ → Parts → ℕ → ℕ → ℕ → ℕ → Type 0
AreApart top e one cycle other moment = lies_over top e one cycle other moment ≡ false

-- Where the name of an aircraft has room at its end or at its start, it stands apart from both places of the name of
-- each aircraft of lower index. So no two names that are drawn lie over each other.
abbrev pub AreNamesApart : ℕ → Parts → Type 0
AreNamesApart top e = (own cycle other : ℕ) → has_room top e own cycle ≡ true → other < own → AreApart top e own cycle other e.cycles × AreApart top e own cycle other 1

-- A part of a whole stands along a length at its share, with a loss of less than one unit.
pub record IsShare (length whole part at : ℕ) : Type 0 where
  pub not_past : at * whole ≤ length * part
  pub near : length * part < (at + 1) * whole

-- The box shows so many feet to the east from its left edge, and so many to the north from its lower edge. Each place of
-- each aircraft stands at its share of its width and of its height, and both directions have one scale. Where one place
-- is farther east than another one it stands no farther to the left, and where it is farther north no lower.
pub record AreShown (top : ℕ) (e : Parts) : Type 0 where
  pub one_scale : box_height * (view_of e).x.whole ≡ box_width * (view_of e).y.whole
  pub to_east : (own cycle : ℕ) → own < length e.crafts → 1 ≤ cycle → cycle ≤ e.cycles → ((view_of e).x.low ≤ℤ (position e own cycle).x) × IsShare box_width (view_of e).x.whole (unsigned_abs ((position e own cycle).x -ℤ (view_of e).x.low)) (x_in e own cycle - box_left)
  pub to_north : (own cycle : ℕ) → own < length e.crafts → 1 ≤ cycle → cycle ≤ e.cycles → ((view_of e).y.low ≤ℤ (position e own cycle).y) × IsShare box_height (view_of e).y.whole (unsigned_abs ((position e own cycle).y -ℤ (view_of e).y.low)) (box_bottom top - y_in top e own cycle)
  pub eastward : (one other cycle moment : ℕ) → one < length e.crafts → other < length e.crafts → 1 ≤ cycle → cycle ≤ e.cycles → 1 ≤ moment → moment ≤ e.cycles → (position e one cycle).x ≤ℤ (position e other moment).x → x_in e one cycle ≤ x_in e other moment
  pub northward : (one other cycle moment : ℕ) → one < length e.crafts → other < length e.crafts → 1 ≤ cycle → cycle ≤ e.cycles → 1 ≤ moment → moment ≤ e.cycles → (position e one cycle).y ≤ℤ (position e other moment).y → y_in top e other moment ≤ y_in top e one cycle
