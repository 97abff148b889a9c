-- Tracks of a measured quantity, for any limits of its estimate and rate.
-- Estimates are in 1/1024 ft, rates in 1/1024 ft/s, gains in 1/1024, measurements in feet. A step is one second.
use Rattle.std.specs.Prelude.{ℕ, ◌+◌, ◌≤◌, ◌^◌, ◌==◌, if◌then◌else◌, ℤ, pos, neg_ℤ, ◌+ℤ◌, ◌-ℤ◌, ◌*ℤ◌, ◌≤ℤ◌, unsigned_abs, List, [], ◌∷◌, Option, Some, None}
use Rattle.std.specs.Int.{int_div_euclid}
use Rattle.acas_num.specs.declared.limits.Limits.{Limits}
use Rattle.acas_num.specs.declared.track.TrackState.{TrackState}
use Rattle.acas_num.specs.declared.track.TrackState.TheVariants.{Empty, One, Run}
use Rattle.acas_num.specs.Clamp.{clamped, LiesBetween}

-- Feet, or ft/s, in units of 1/1024.
abbrev pub units : ℤ → ℤ
units feet = pos 1024 *ℤ feet

-- A slant range: 0 to 182,280 ft, at most 4,000 ft/s either way.
abbrev pub range_limits : Limits
range_limits = record { lowest = units (pos 0); highest = units (pos 182280); fastest = units (pos 4000) }

-- An altitude: -2,000 to 62,000 ft, at most 200 ft/s either way.
abbrev pub altitude_limits : Limits
altitude_limits = record { lowest = units (neg_ℤ (pos 2000)); highest = units (pos 62000); fastest = units (pos 200) }

-- Limits in order, and far from the ends of the machine's numbers.
pub record IsSound (limits : Limits) : Type 0 where
  pub ordered : limits.lowest ≤ℤ limits.highest
  pub lowest : unsigned_abs limits.lowest ≤ 2 ^ 28
  pub highest : unsigned_abs limits.highest ≤ 2 ^ 28
  pub forward : pos 0 ≤ℤ limits.fastest
  pub fastest : unsigned_abs limits.fastest ≤ 2 ^ 28

-- An estimate, or a measurement, that the limits allow.
abbrev pub IsEstimate : Limits → ℤ → Type 0
IsEstimate limits e = LiesBetween limits.lowest limits.highest e

-- A rate that the limits allow.
abbrev pub IsRate : Limits → ℤ → Type 0
IsRate limits v = LiesBetween (neg_ℤ limits.fastest) limits.fastest v

-- The most measurements in a row that a running track can miss.
abbrev pub most_missed : ℕ
most_missed = 5

-- Estimates and rates that lie within the limits, and no more misses than a track can have.
abbrev pub IsWithinLimits : Limits → TrackState → Type 0
IsWithinLimits limits Empty = Unit {0}
IsWithinLimits limits (One e) = IsEstimate limits e
IsWithinLimits limits (Run e v n) = IsEstimate limits e × IsRate limits v × (n ≤ most_missed)

-- An estimate and a rate, clamped to the limits.
abbrev pub estimate_in : Limits → ℤ → ℤ
estimate_in limits e = clamped limits.lowest limits.highest e

abbrev pub rate_in : Limits → ℤ → ℤ
rate_in limits v = clamped (neg_ℤ limits.fastest) limits.fastest v

-- The estimate a second later, at a rate.
abbrev pub predicted : Limits → ℤ → ℤ → ℤ
predicted limits e v = estimate_in limits (e +ℤ v)

-- The part of a difference that a gain takes over: one product, divided by 1024 and rounded down.
abbrev pub share : ℕ → ℤ → ℤ
share gain d = int_div_euclid (pos gain *ℤ d) (pos 1024)

-- A running state from the predicted estimate p, the rate v, and the difference d of measurement and prediction.
abbrev pub corrected : Limits → ℕ → ℕ → ℤ → ℤ → ℤ → TrackState
corrected limits alpha beta p v d =
    Run (estimate_in limits (p +ℤ share alpha d)) (rate_in limits (v +ℤ share beta d)) 0

-- What a measurement, in units, makes of a state.
abbrev pub measured : Limits → ℕ → ℕ → TrackState → ℤ → TrackState
measured limits alpha beta Empty m = One m
measured limits alpha beta (One e) m = Run m (rate_in limits (m -ℤ e)) 0
measured limits alpha beta (Run e v n) m =
    let p = predicted limits e v in corrected limits alpha beta p v (m -ℤ p)

-- What a miss makes of a state.
abbrev pub missed : Limits → TrackState → TrackState
missed limits Empty = Empty
missed limits (One e) = Empty
missed limits (Run e v n) = if n == most_missed then Empty else Run (predicted limits e v) v (n + 1)

-- One second: a measurement in feet, or a miss.
abbrev pub step : Limits → ℕ → ℕ → TrackState → Option ℤ → TrackState
step limits alpha beta state None = missed limits state
step limits alpha beta state (Some feet) = measured limits alpha beta state (units feet)

-- The state after all measurements and misses of a list, the newest first.
abbrev pub track : Limits → ℕ → ℕ → List (Option ℤ) → TrackState
track limits alpha beta [] = Empty
track limits alpha beta (m ∷ earlier) = step limits alpha beta (track limits alpha beta earlier) m
