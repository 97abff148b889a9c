-- The altitudes of an encounter and of its modelled flights, and the axis that holds them.
use Rattle.std.specs.Prelude.{ℕ, zero, suc, ◌-◌, ◌<◌, ◌≤◌, if◌then◌else◌, nat_le, Bool, ℤ, pos, ◌+ℤ◌, ◌-ℤ◌, ◌*ℤ◌, ◌≤ℤ◌, ◌<ℤ◌, List, length}
use Rattle.std.specs.Int.{int_div_euclid, int_max, int_min}
use Rattle.acas_base.specs.Encounter.{Parts}
use Rattle.acas_base.specs.declared.entry.Entry.{Entry}
use Rattle.flight.specs.Flight.{position}
use Rattle.picture.specs.Layout.{course_bottom, course_height}
use Rattle.picture.specs.declared.span.Span.{Span}
use Rattle.plot_axes.specs.Scale.{along}
use Rattle.response.specs.Flown.{flown}

-- ---- altitudes

-- The altitude of an aircraft in a cycle as planned, in 1/60 ft.
unfoldable pub height_in : Parts → ℕ → ℕ → ℤ
height_in e own cycle = (position e own cycle).z

-- An altitude in 1/2048 ft, in 1/60 ft and rounded down.
unfoldable pub sixtieths : ℤ → ℤ
sixtieths units = int_div_euclid (pos 60 *ℤ units) (pos 2048)

-- Its altitude with the modelled response.
abbrev pub modelled_in : Parts → List Entry → ℕ → ℕ → ℤ
modelled_in e journal own cycle = sixtieths (flown e journal own cycle)

-- The least and the greatest of some altitudes and one more.
abbrev pub with_height : Span → ℤ → Span
with_height span height = record { low = int_min span.low height; high = int_max span.high height }

-- The same with those of a flight in the first cycles.
abbrev pub over_flight : (ℕ → ℤ) → Span → ℕ → Span
over_flight height span zero = span
over_flight height span (suc n) = with_height (over_flight height span n) (height (suc n))

-- The same with those of the first ones of some flights.
abbrev pub over_flights : (ℕ → ℕ → ℤ) → ℕ → Span → ℕ → Span
over_flights height cycles span zero = span
over_flights height cycles span (suc n) = over_flight (height n) (over_flights height cycles span n) cycles

-- The least and the greatest altitude of all aircraft in all cycles, as planned.
unfoldable pub all_heights : Parts → Span
all_heights e = over_flights (height_in e) e.cycles (record { low = height_in e 0 1; high = height_in e 0 1 }) (length e.crafts)

-- Of up to 8 aircraft the modelled flights are drawn, too.
abbrev pub has_modelled : Parts → Bool
has_modelled e = nat_le (length e.crafts) 8

-- The least and the greatest altitude of all that is drawn.
unfoldable pub drawn_heights : Parts → List Entry → Span
drawn_heights e journal =
    if has_modelled e then over_flights (modelled_in e journal) e.cycles (all_heights e) (length e.crafts) else all_heights e

-- ---- the axis

-- An altitude of 1/60 ft in whole steps of 500 ft, rounded down.
unfoldable pub steps_of : ℤ → ℤ
steps_of height = int_div_euclid height (pos 30000)

-- The axis begins at the last step below the least altitude, and ends at the first step above the greatest one.
abbrev pub axis_over : Span → Span
axis_over span = record { low = steps_of (span.low -ℤ pos 1); high = steps_of span.high +ℤ pos 1 }

unfoldable pub axis_of : Parts → List Entry → Span
axis_of e journal = axis_over (drawn_heights e journal)

-- A step in 1/60 ft.
abbrev pub height_of : ℤ → ℤ
height_of step = step *ℤ pos 30000

-- How far down an altitude stands.
unfoldable pub altitude_y : Span → ℤ → ℕ
altitude_y axis height = course_bottom - along course_height (height_of axis.low) (height_of axis.high) height

-- An altitude lies on an axis, below its end.
pub record IsOn (axis : Span) (height : ℤ) : Type 0 where
  pub low : height_of axis.low ≤ℤ height
  pub high : height <ℤ height_of axis.high

-- An axis holds some flights of an encounter: that of each aircraft in each cycle.
abbrev pub HoldsFlights : Span → (ℕ → ℕ → ℤ) → Parts → Type 0
HoldsFlights axis height e = (own cycle : ℕ) → own < length e.crafts → 1 ≤ cycle → cycle ≤ e.cycles → IsOn axis (height own cycle)

-- It holds the planned altitude of each aircraft in each cycle.
abbrev pub HoldsPlanned : Span → Parts → Type 0
HoldsPlanned axis e = HoldsFlights axis (height_in e) e

-- It holds those of the modelled flights.
abbrev pub HoldsModelled : Span → Parts → List Entry → Type 0
HoldsModelled axis e journal = HoldsFlights axis (modelled_in e journal) e
