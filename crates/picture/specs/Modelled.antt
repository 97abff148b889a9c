-- The flights with the modelled response, as dotted lines in the box of the altitudes.
use Rattle.std.specs.Prelude.{ℕ, zero, suc, ◌+◌, ◌-◌, Bool, not, ◌&&◌, if◌then◌else◌, nat_lt, List, [], ◌∷◌, ◌++◌, codes, length, map, Option, Some, None}
use Rattle.std.specs.List.{flat_map, range_with_len}
use Rattle.std.specs.Ordering.{int_eq}
use Rattle.acas_base.specs.Encounter.{Parts}
use Rattle.acas_base.specs.declared.entry.Entry.{Entry}
use Rattle.acas_text.specs.Hex.{hex}
use Rattle.air_journal.specs.Airs.{address_of}
use Rattle.flight.specs.Flight.{position}
use Rattle.page_marks.specs.Paints.{color, dashed_paint}
use Rattle.page_marks.specs.Places.{point_at}
use Rattle.picture.specs.Heights.{altitude_y, has_modelled, modelled_in}
use Rattle.picture.specs.declared.span.Span.{Span}
use Rattle.plot_axes.specs.Time.{begin_of}
use Rattle.response.specs.Flown.{altitude_units, flown}
use Rattle.svg_text.specs.Marks.{Mark, traced}
use Rattle.svg_text.specs.declared.shapes.Color.{Color}
use Rattle.svg_text.specs.declared.shapes.Dash.TheVariants as dashes
use Rattle.svg_text.specs.declared.shapes.Outline.TheVariants as outlines
use Rattle.svg_text.specs.declared.shapes.Paint.{Paint}
use Rattle.svg_text.specs.declared.shapes.Point.{Point}

-- ---- where a flight departs

-- After cycle 1, the altitude with the modelled response isn't the planned one.
abbrev pub is_apart : Parts → List Entry → ℕ → ℕ → Bool
is_apart e journal own cycle = nat_lt 1 cycle && not (int_eq (flown e journal own cycle) (altitude_units (position e own cycle).z))

-- The first one of two cycles, where there is one.
abbrev pub earlier : Option ℕ → Bool → ℕ → Option ℕ
earlier None apart cycle = if apart then Some cycle else None
earlier (Some first) apart cycle = Some first

-- The first of so many cycles in which it isn't.
abbrev pub departed : Parts → List Entry → ℕ → ℕ → Option ℕ
departed e journal own zero = None
departed e journal own (suc n) = earlier (departed e journal own n) (is_apart e journal own (suc n)) (suc n)

-- ---- its line

abbrev pub green : Color
green = color 0 122 90

abbrev pub modelled_paint : Paint
modelled_paint = dashed_paint green 40 dashes.Dotted

abbrev pub modelled_title : ℕ → List ℕ
modelled_title address = hex 6 address ++ codes " as modelled"

unfoldable pub modelled_point : Span → Parts → List Entry → ℕ → ℕ → Point
modelled_point axis e journal own cycle = point_at (begin_of e.cycles cycle) (altitude_y axis (modelled_in e journal own cycle))

-- The points after so many cycles.
unfoldable pub modelled_points : Span → Parts → List Entry → ℕ → ℕ → List Point
modelled_points axis e journal own passed = map (modelled_point axis e journal own) (range_with_len (passed + 1) (e.cycles - passed))

-- The line begins with the last cycle in which the flight is as planned. It ends with the last cycle of the run.
abbrev pub modelled_line : Span → Parts → List Entry → ℕ → List ℕ → Option ℕ → List Mark
modelled_line axis e journal own title None = []
modelled_line axis e journal own title (Some first) = traced outlines.Open (modelled_points axis e journal own (first - 2)) modelled_paint title ∷ []

unfoldable pub modelled_marks : Span → Parts → List Entry → ℕ → List Mark
modelled_marks axis e journal own = modelled_line axis e journal own (modelled_title (address_of e own)) (departed e journal own e.cycles)

abbrev pub modelled_flights : Span → Parts → List Entry → List Mark
modelled_flights axis e journal = flat_map (modelled_marks axis e journal) (range_with_len 0 (length e.crafts))

-- Of up to 8 aircraft.
unfoldable pub all_modelled_marks : Span → Parts → List Entry → List Mark
all_modelled_marks axis e journal = if has_modelled e then modelled_flights axis e journal else []
