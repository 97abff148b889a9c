-- The range test: is the other aircraft close, or will it soon be?
-- Ranges and DMOD are in 1/1024 ft, range rates in 1/1024 ft/s, TAU in s.
use Rattle.std.specs.Prelude.{ℕ, ◌-◌, ◌*◌, ◌/◌, if◌then◌else◌, min, ◌≤◌, ◌⊎◌, ◌||◌, ◌&&◌, Bool, nat_le, ℤ, pos, ◌≤ℤ◌, ◌<ℤ◌, int_le, int_lt, unsigned_abs}
use Rattle.acas_base.specs.declared.level.Row.{Row}
use Rattle.acas_num.specs.Seconds.{need}

-- Modified tau in whole seconds, rounded up: (r * r - dmod * dmod) / (r * rate). It is for a range beyond DMOD that
-- closes at this rate.
abbrev pub modified_tau : ℕ → ℕ → ℕ → ℕ
modified_tau r rate dmod = need (r * r - dmod * dmod) (r * rate)

-- Beyond DMOD, closing, and with a modified tau of at most TAU.
pub record IsClosingIn (r rdot : ℤ) (row : Row) : Type 0 where
  pub beyond : row.dmod <ℤ r
  pub closing : rdot <ℤ pos 0
  pub soon : modified_tau (unsigned_abs r) (unsigned_abs rdot) (unsigned_abs row.dmod) ≤ unsigned_abs row.tau

-- The range test: within DMOD, or closing in.
abbrev pub IsRangeHit : ℤ → ℤ → Row → Type 0
IsRangeHit r rdot row = (r ≤ℤ row.dmod) ⊎ IsClosingIn r rdot row

-- The same as a truth value. So what is seen is a function of what is known.
unfoldable pub is_range_hit : ℤ → ℤ → Row → Bool
is_range_hit r rdot row =
    int_le r row.dmod || (int_lt rdot (pos 0) && nat_le (modified_tau (unsigned_abs r) (unsigned_abs rdot) (unsigned_abs row.dmod)) (unsigned_abs row.tau))

-- Twice modified tau, in whole half-seconds rounded down and at most twice TAU; 0 within DMOD, and where the range
-- doesn't close.
unfoldable pub halves_by_modified_tau : ℤ → ℤ → Row → ℕ
halves_by_modified_tau r rdot row =
    if int_lt rdot (pos 0) && int_lt row.dmod r
    then min (2 * unsigned_abs row.tau) (2 * (unsigned_abs r * unsigned_abs r - unsigned_abs row.dmod * unsigned_abs row.dmod) / (unsigned_abs r * unsigned_abs rdot))
    else 0
