-- Where places stand in the plan. It shows them from above, north up, and has one scale for both directions.
use Rattle.std.specs.Prelude.{ℕ, zero, suc, ◌+◌, ◌-◌, ◌*◌, ◌/◌, ◌<◌, ◌≤◌, ◌^◌, ℤ, pos, ◌+ℤ◌, ◌-ℤ◌, ◌≤ℤ◌, unsigned_abs, length, max}
use Rattle.std.specs.Int.{int_div_euclid, int_max, int_min}
use Rattle.acas_base.specs.Encounter.{Parts}
use Rattle.flight.specs.Flight.{position}
use Rattle.flight.specs.declared.place.Place.{Place}
use Rattle.page_marks.specs.Places.{point_at}
use Rattle.plan_panel.specs.declared.extent.Extent.{Extent}
use Rattle.plan_panel.specs.declared.extent.Span.{Span}
use Rattle.plan_panel.specs.declared.view.Axis.{Axis}
use Rattle.plan_panel.specs.declared.view.View.{View}
use Rattle.plot_axes.specs.Scale.{along}
use Rattle.svg_text.specs.declared.shapes.Point.{Point}

-- ---- how far the aircraft come

-- The least and the greatest of one value.
abbrev pub only : ℤ → Span
only value = record { low = value; high = value }

-- Those of some values and one more.
abbrev pub with_value : Span → ℤ → Span
with_value span value = record { low = int_min span.low value; high = int_max span.high value }

-- The same of places.
abbrev pub at_place : Place → Extent
at_place place = record { x = only place.x; y = only place.y }

abbrev pub with_place : Extent → Place → Extent
with_place extent place = record { x = with_value extent.x place.x; y = with_value extent.y place.y }

-- With the places of an aircraft in the first cycles.
abbrev pub over_cycles : Parts → ℕ → Extent → ℕ → Extent
over_cycles e own extent zero = extent
over_cycles e own extent (suc n) = with_place (over_cycles e own extent n) (position e own (suc n))

-- With those of the first aircraft in all cycles.
abbrev pub over_crafts : Parts → ℕ → Extent
over_crafts e zero = at_place (position e 0 1)
over_crafts e (suc n) = over_cycles e n (over_crafts e n) e.cycles

-- How far all aircraft come in all cycles.
unfoldable pub extent_of : Parts → Extent
extent_of e = over_crafts e (length e.crafts)

-- No end is farther than an aircraft can come.
pub record IsSpan (span : Span) : Type 0 where
  pub low : unsigned_abs span.low ≤ 2198000
  pub high : unsigned_abs span.high ≤ 2198000

pub record IsExtent (extent : Extent) : Type 0 where
  pub x : IsSpan extent.x
  pub y : IsSpan extent.y

-- ---- what the box shows

abbrev pub width_of : Span → ℕ
width_of span = unsigned_abs (span.high -ℤ span.low)

-- The box is four sides wide and three sides high. A side is at least a quarter of a nautical mile of 6,076 ft.
abbrev pub need_of : Extent → ℕ
need_of extent = max 1519 (max (width_of extent.x / 4) (width_of extent.y / 3))

-- A side, with some room.
abbrev pub side_for : ℕ → ℕ
side_for need = need * 112 / 100 + 1

abbrev pub middle : Span → ℤ
middle span = int_div_euclid (span.low +ℤ span.high) (pos 2)

-- An axis of so many feet, with the middle of a span in its middle.
abbrev pub axis_over : Span → ℕ → Axis
axis_over span whole = record { low = middle span -ℤ pos (whole / 2); whole = whole }

abbrev pub view_over : Extent → View
view_over extent = record {
  x = axis_over extent.x (4 * side_for (need_of extent));
  y = axis_over extent.y (3 * side_for (need_of extent));
}

unfoldable pub view_of : Parts → View
view_of e = view_over (extent_of e)

-- It has a length, and its numbers are small.
pub record IsAxis (axis : Axis) : Type 0 where
  pub low : unsigned_abs axis.low < 2 ^ 25
  pub some : 1 ≤ axis.whole
  pub near : axis.whole < 2 ^ 24

pub record IsView (view : View) : Type 0 where
  pub x : IsAxis view.x
  pub y : IsAxis view.y
  pub wide : 6076 ≤ view.x.whole

-- A value lies on an axis, and a twentieth of its length or more from each end.
pub record IsOn (axis : Axis) (value : ℤ) : Type 0 where
  pub low : axis.low ≤ℤ value
  pub high : value ≤ℤ (axis.low +ℤ pos axis.whole)
  pub least : axis.whole ≤ 20 * unsigned_abs (value -ℤ axis.low)
  pub most : 20 * unsigned_abs (value -ℤ axis.low) ≤ 19 * axis.whole

-- The box shows the place of each aircraft in each cycle.
pub record IsShown (e : Parts) (own cycle : ℕ) : Type 0 where
  pub x : IsOn (view_of e).x (position e own cycle).x
  pub y : IsOn (view_of e).y (position e own cycle).y

abbrev pub HoldsAll : Parts → Type 0
HoldsAll e = (own cycle : ℕ) → own < length e.crafts → 1 ≤ cycle → cycle ≤ e.cycles → IsShown e own cycle

-- ---- where a place stands in it

abbrev pub box_width : ℕ
box_width = 8000

abbrev pub box_height : ℕ
box_height = 6000

abbrev pub box_left : ℕ
box_left = 400

abbrev pub box_top : ℕ → ℕ
box_top top = top + 500

abbrev pub box_bottom : ℕ → ℕ
box_bottom top = top + 6500

-- How far along a length a value stands.
unfoldable pub placed : ℕ → Axis → ℤ → ℕ
placed length axis value = along length axis.low (axis.low +ℤ pos axis.whole) value

-- East is to the right, and north is up.
unfoldable pub x_in : Parts → ℕ → ℕ → ℕ
x_in e own cycle = box_left + placed box_width (view_of e).x (position e own cycle).x

unfoldable pub y_in : ℕ → Parts → ℕ → ℕ → ℕ
y_in top e own cycle = box_bottom top - placed box_height (view_of e).y (position e own cycle).y

unfoldable pub plan_point : ℕ → Parts → ℕ → ℕ → Point
plan_point top e own cycle = point_at (x_in e own cycle) (y_in top e own cycle)
