-- The vertical separations at closest approach. Altitudes are in 1/1024 ft, rates in 1/1024 ft/s.
use Rattle.std.specs.Prelude.{◌≡◌, ◌≤◌, ℕ, Bool, true, false, ◌*◌, ◌/◌, ◌^◌, if◌then◌else◌, ℤ, pos, neg_ℤ, ◌+ℤ◌, ◌-ℤ◌, ◌*ℤ◌, ◌≤ℤ◌, int_lt, unsigned_abs, map, min, replicate}
use Rattle.std.specs.Int.{int_div_euclid, int_max, int_min}
use Rattle.acas_base.specs.Strengths.{floor_of, weakest_first}
use Rattle.acas_base.specs.declared.advisory.Sense.{Sense}
use Rattle.acas_base.specs.declared.advisory.Sense.TheVariants.{Up, Down}
use Rattle.acas_base.specs.declared.advisory.Strength.{Strength}
use Rattle.acas_base.specs.declared.advisory.Strength.TheVariants.{Limit2000, Limit1000, Limit500, Level, Positive, Increase}
use Rattle.acas_base.specs.declared.level.Row.{Row}
use Rattle.acas_base.specs.declared.setting.Profile.{Profile}
use Rattle.acas_base.specs.declared.setting.Profile.TheVariants.{One, Two}
use Rattle.acas_base.specs.declared.view.Seps.{Seps}
use Rattle.craft_view.specs.declared.motion.Estimate.{Estimate}
use Rattle.craft_view.specs.declared.motion.Motion.{Motion}
use Rattle.craft_view.specs.declared.separations.Approach.{Approach}
use Rattle.craft_view.specs.declared.separations.Response.{Response}
use Rattle.project.specs.Projection.{projected}

-- The half-seconds to closest approach: twice the row's seconds at most, and zero where the range doesn't close.
unfoldable pub halves_to : Estimate → Row → ℕ
halves_to range row = if int_lt range.rate (pos 0) then min (2 * unsigned_abs row.tau) (2 * unsigned_abs range.est / unsigned_abs range.rate) else 0

-- The vertical rate that a sense and a strength ask for: own rate, where that meets the floor already, or the floor.
unfoldable pub asked_rate : Sense → Strength → ℤ → ℤ
asked_rate Up strength rate = int_max rate (floor_of strength)
asked_rate Down strength rate = int_min rate (neg_ℤ (floor_of strength))

-- A limit on the vertical rate.
abbrev pub is_limit : Strength → Bool
is_limit Limit2000 = true
is_limit Limit1000 = true
is_limit Limit500 = true
is_limit Level = false
is_limit Positive = false
is_limit Increase = false

-- The rate at the floor of a strength, in a sense.
abbrev pub floor_rate : Sense → Strength → ℤ
floor_rate Up strength = floor_of strength
floor_rate Down strength = neg_ℤ (floor_of strength)

-- The rate for which a separation is judged. In profile 2 that of a limit is its floor, which the limit lets own aircraft
-- fly, whatever own rate is.
abbrev pub judged_rate : Profile → Sense → Strength → ℤ → ℤ
judged_rate One sense strength rate = asked_rate sense strength rate
judged_rate Two sense strength rate = if is_limit strength then floor_rate sense strength else asked_rate sense strength rate

-- A first response: after 5 s by 8 ft/s2, so that the rate moves by 4 ft/s in a half-second.
abbrev pub first_response : Response
first_response = record { delay = 10; step = pos 4096 }

-- A later response: after 2.5 s by 11 ft/s2.
abbrev pub later_response : Response
later_response = record { delay = 5; step = pos 5632 }

pub record IsResponse (response : Response) : Type 0 where
  pub forward : pos 1 ≤ℤ response.step
  pub step : response.step ≤ℤ pos (2 ^ 16)

-- Own altitude after so many half-seconds of a response.
unfoldable pub own_after : Profile → Estimate → ℕ → Response → Sense → Strength → ℤ
own_after profile own halves response sense strength = projected own.est own.rate (judged_rate profile sense strength own.rate) response.delay response.step halves

-- An altitude after so many half-seconds at its rate. The other aircraft keeps its own.
unfoldable pub kept_after : Estimate → ℕ → ℤ
kept_after altitude halves = altitude.est +ℤ int_div_euclid (altitude.rate *ℤ pos halves) (pos 2)

-- How far a sense has two altitudes apart: own over the other for up, and the opposite for down.
unfoldable pub apart : Sense → ℤ → ℤ → ℤ
apart Up own target = own -ℤ target
apart Down own target = target -ℤ own

-- How far a sense and a strength separate the two.
unfoldable pub separation : Profile → Motion → ℕ → Response → Sense → Strength → ℤ
separation profile m halves response sense strength = apart sense (own_after profile m.own halves response sense strength) (kept_after m.target halves)

-- The separations of all strengths, weakest first.
unfoldable pub separations : Profile → Motion → ℕ → Response → Seps
separations profile m halves response = record {
  up = map (separation profile m halves response Up) weakest_first;
  down = map (separation profile m halves response Down) weakest_first;
}

-- Where the two are at closest approach if both keep their rates.
pub record IsApproach (m : Motion) (approach : Approach) : Type 0 where
  pub halves : approach.halves ≤ 120
  pub own : approach.own ≡ kept_after m.own approach.halves
  pub target : approach.target ≡ kept_after m.target approach.halves
  pub own_bound : unsigned_abs approach.own ≤ 2 ^ 41
  pub target_bound : unsigned_abs approach.target ≤ 2 ^ 41

abbrev pub zeros : Seps
zeros = record { up = replicate 6 (pos 0); down = replicate 6 (pos 0) }
