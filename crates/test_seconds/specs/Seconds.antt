-- How many seconds the tests of an advisory need.
use Rattle.std.specs.Prelude.{◌≡◌, ℕ, Bool, false, if◌then◌else◌, ℤ, pos, int_le, int_lt, nat_le, unsigned_abs, Option, Some, None}
use Rattle.std.specs.Option.{option_map_or}
use Rattle.acas_base.specs.declared.level.Row.{Row}
use Rattle.acas_num.specs.Seconds.{need}
use Rattle.tau_test.specs.RangeTest.{modified_tau, is_range_hit}
use Rattle.vert_test.specs.AltTest.{are_opposite, is_altitude_hit}

-- The least whole number of seconds for which the range test holds: 0 within DMOD, else modified tau, rounded up; none
-- where the range doesn't close.
unfoldable pub range_seconds : ℤ → ℤ → Row → Option ℕ
range_seconds r rdot row =
    if int_le r row.dmod then Some 0
    else if int_lt rdot (pos 0) then Some (modified_tau (unsigned_abs r) (unsigned_abs rdot) (unsigned_abs row.dmod))
    else None

-- The same of the altitude test: 0 within ZTHR, else the time to the same altitude, rounded up; none where the height
-- doesn't shrink.
unfoldable pub altitude_seconds : ℤ → ℤ → Row → Option ℕ
altitude_seconds dz dzdot row =
    if nat_le (unsigned_abs dz) (unsigned_abs row.zthr) then Some 0
    else if are_opposite dz dzdot then Some (need (unsigned_abs dz) (unsigned_abs dzdot))
    else None

-- There are so many seconds, and no more than tau.
abbrev pub is_within : Option ℕ → ℕ → Bool
is_within seconds tau = option_map_or (λ s. nat_le s tau) seconds false

-- The same with the tau of a row.
abbrev pub is_within_tau : Option ℕ → Row → Bool
is_within_tau seconds row = is_within seconds (unsigned_abs row.tau)

-- The tests hold exactly where the seconds that they need are within tau.
abbrev pub RangeTestGoesBySeconds : Type 0
RangeTestGoesBySeconds = (r rdot : ℤ) (row : Row) → is_range_hit r rdot row ≡ is_within_tau (range_seconds r rdot row) row

abbrev pub AltitudeTestGoesBySeconds : Type 0
AltitudeTestGoesBySeconds = (dz dzdot : ℤ) (row : Row) → is_altitude_hit dz dzdot row ≡ is_within_tau (altitude_seconds dz dzdot row) row
