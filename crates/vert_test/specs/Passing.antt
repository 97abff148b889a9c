-- The altitude test of a resolution advisory in profile 2: is the vertical miss distance small? Heights are those of the
-- other aircraft over own, in 1/1024 ft, and rates in 1/1024 ft/s. Times are in half-seconds.
use Rattle.std.specs.Prelude.{ℕ, ◌*◌, Bool, not, ◌&&◌, ◌||◌, if◌then◌else◌, nat_le, nat_lt, ℤ, pos, ◌+ℤ◌, ◌*ℤ◌, int_lt, unsigned_abs}
use Rattle.acas_base.specs.declared.level.Row.{Row}
use Rattle.vert_test.specs.AltTest.{is_altitude_hit}
use Rattle.vert_test.specs.declared.passing.Approach.{Approach}

-- Both rates have one sign.
abbrev pub go_alike : ℤ → ℤ → Bool
go_alike a b = (int_lt a (pos 0) && int_lt b (pos 0)) || (int_lt (pos 0) a && int_lt (pos 0) b)

-- Own aircraft is slow: its vertical rate is at most 600 ft/min, or it moves the other's way and slower.
abbrev pub is_slow : ℤ → ℤ → Bool
is_slow own other = nat_le (unsigned_abs own) 10240 || (go_alike own other && nat_lt (unsigned_abs own) (unsigned_abs other))

-- Twice the height after so many half-seconds.
abbrev pub twice_height : ℤ → ℤ → ℕ → ℤ
twice_height height rate halves = pos 2 *ℤ height +ℤ rate *ℤ pos halves

-- The two are on different sides of zero, where zero counts as above it.
abbrev pub are_apart : ℤ → ℤ → Bool
are_apart a b = (int_lt a (pos 0) && not (int_lt b (pos 0))) || (not (int_lt a (pos 0)) && int_lt b (pos 0))

-- The vertical miss distance is at most ZTHR at one of two times, or they pass through one altitude before the later
-- one.
unfoldable pub passes_close : ℤ → ℤ → Approach → Row → Bool
passes_close height rate approach row =
    let last = twice_height height rate approach.halves in
    let first = twice_height height rate approach.nearer in
    nat_le (unsigned_abs last) (2 * unsigned_abs row.zthr) || (nat_le (unsigned_abs first) (2 * unsigned_abs row.zthr) || are_apart height last)

-- The thresholds with another TAU.
abbrev pub with_tau : ℤ → Row → Row
with_tau tau row = record row { tau = tau }

-- The whole test. Where own aircraft is slow, the reduced time takes the place of TAU.
abbrev pub passes_in_time : ℤ → ℤ → Bool → Approach → ℤ → Row → Bool
passes_in_time height rate slow approach reduced row =
    is_altitude_hit height rate (if slow then with_tau reduced row else row) && passes_close height rate approach row
