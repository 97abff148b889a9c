-- How an aircraft would have flown with the modelled response (this project's profile). Altitudes are in 1/2048 ft and
-- rates in 1/1024 ft/s, so that in a half-second an altitude grows by the rate.
use Rattle.std.specs.Prelude.{ℕ, zero, suc, ◌+◌, ◌-◌, ◌*◌, Bool, not, ◌&&◌, if◌then◌else◌, nat_le, ℤ, pos, neg_ℤ, ◌+ℤ◌, ◌-ℤ◌, ◌*ℤ◌, List, find, Option, Some, None}
use Rattle.std.specs.Int.{int_div_euclid}
use Rattle.std.specs.List.{range_with_len}
use Rattle.acas_base.specs.Encounter.{Parts}
use Rattle.acas_base.specs.declared.advisory.Sense.TheVariants.{Up, Down}
use Rattle.acas_base.specs.declared.advisory.Strength.{Strength}
use Rattle.acas_base.specs.declared.craft.Leg.{Leg}
use Rattle.acas_base.specs.declared.entry.Entry.{Entry}
use Rattle.acas_num.specs.Clamp.{clamped}
use Rattle.advisory_report.specs.Composite.{shown}
use Rattle.advisory_report.specs.Phrases.{has_advice, is_same_advice}
use Rattle.advisory_report.specs.declared.composite.Composite.{Composite}
use Rattle.air_journal.specs.Airs.{air_of}
use Rattle.air_journal.specs.Cells.{commit_cells}
use Rattle.air_rules.specs.Air.{is_ra}
use Rattle.craft_view.specs.Separations.{asked_rate, first_response, later_response}
use Rattle.craft_view.specs.declared.separations.Response.{Response}
use Rattle.flight.specs.Flight.{legs_of, position, rate_in}
use Rattle.response.specs.declared.motion.Motion.{Motion}

-- What is planned and what is advised of one aircraft: by cycle, the planned altitude, the planned rate, and what the
-- aircraft shows, which is nothing in cycle 0.
pub record Flight : Type 0 where
  pub altitude : ℕ → ℤ
  pub rate : ℕ → ℤ
  pub shown : ℕ → Composite

-- ---- advice

-- Two composites advise the same.
abbrev pub advise_same : Composite → Composite → Bool
advise_same one other = is_same_advice one.up other.up && is_same_advice one.down other.down

-- The advice of a cycle differs from that of the cycle before it.
abbrev pub is_changed : Flight → ℕ → Bool
is_changed flight cycle = not (advise_same (flight.shown (cycle - 1)) (flight.shown cycle))

-- The last cycle, up to this one, whose advice differs from that of the cycle before it; 0 where there is none.
abbrev pub changed : Flight → ℕ → ℕ
changed flight zero = 0
changed flight (suc n) = if is_changed flight (suc n) then suc n else changed flight n

-- ---- what is done about it

-- Without advice the rate goes back at once.
abbrev pub going_back : Response
going_back = record { delay = 0; step = first_response.step }

-- The response in a cycle: a first one where there was no advice before the last change, and else a later one.
abbrev pub response_to : Composite → Composite → Response
response_to before now = if has_advice now then (if has_advice before then later_response else first_response) else going_back

abbrev pub response_in : Flight → ℕ → Response
response_in flight cycle = response_to (flight.shown (changed flight cycle - 1)) (flight.shown cycle)

-- The rate to fly at, by the strengths advised up and down, the planned rate and the rate so far. Advice of one sense
-- asks for its floor, where the rate doesn't meet it already; advice of both asks for level flight.
abbrev pub goal_by : Option Strength → Option Strength → ℤ → ℤ → ℤ
goal_by None None planned rate = planned
goal_by (Some up) None planned rate = asked_rate Up up rate
goal_by None (Some down) planned rate = asked_rate Down down rate
goal_by (Some up) (Some down) planned rate = pos 0

abbrev pub goal_of : Composite → ℤ → ℤ → ℤ
goal_of composite planned rate = goal_by composite.up composite.down planned rate

-- A rate that is moved towards a goal by a step at most.
abbrev pub toward : ℤ → ℤ → ℤ → ℤ
toward goal step rate = rate +ℤ clamped (neg_ℤ step) step (goal -ℤ rate)

-- The rate of the half-second with this number since the last change, from 1: in the delay it stays.
abbrev pub rate_after : Composite → ℤ → Response → ℕ → ℤ → ℤ
rate_after composite planned response half rate = if nat_le half response.delay then rate else toward (goal_of composite planned rate) response.step rate

abbrev pub at_rate : Motion → ℤ → Motion
at_rate motion rate = record { altitude = motion.altitude +ℤ rate; rate = rate }

-- One half-second.
abbrev pub moved : Composite → ℤ → Response → ℕ → Motion → Motion
moved composite planned response half motion = at_rate motion (rate_after composite planned response half motion.rate)

-- The two half-seconds of a cycle that is so many cycles after the last change.
abbrev pub moved_twice : Composite → ℤ → Response → ℕ → Motion → Motion
moved_twice composite planned response since motion =
    moved composite planned response (2 * since + 2) (moved composite planned response (2 * since + 1) motion)

abbrev pub after_cycle : Flight → ℕ → Motion → Motion
after_cycle flight cycle motion = moved_twice (flight.shown cycle) (flight.rate cycle) (response_in flight cycle) (cycle - changed flight cycle) motion

-- The altitude and the rate so many cycles after the first cycle with advice, where the aircraft is as planned.
abbrev pub motion_since : Flight → ℕ → ℕ → Motion
motion_since flight first zero = record { altitude = flight.altitude first; rate = flight.rate first }
motion_since flight first (suc n) = after_cycle flight (first + n) (motion_since flight first n)

-- ---- all of it

-- The first cycle with advice, of so many cycles.
abbrev pub first_advised : Flight → ℕ → Option ℕ
first_advised flight cycles = find (λ cycle. has_advice (flight.shown cycle)) (range_with_len 1 cycles)

-- The altitude in a cycle: as planned up to the first cycle with advice, and where there is none.
abbrev pub flown_from : Flight → ℕ → Option ℕ → ℤ
flown_from flight cycle None = flight.altitude cycle
flown_from flight cycle (Some first) = if nat_le cycle first then flight.altitude cycle else (motion_since flight first (cycle - first)).altitude

-- One product, divided by 60 and rounded down: an altitude in 1/60 ft, and a rate in ft/min.
abbrev pub altitude_units : ℤ → ℤ
altitude_units z = int_div_euclid (pos 2048 *ℤ z) (pos 60)

abbrev pub rate_units : ℤ → ℤ
rate_units rate = int_div_euclid (pos 1024 *ℤ rate) (pos 60)

-- An aircraft of an encounter: it plans to fly its legs, and shows what its commits say.
abbrev pub flight_of : Parts → List Entry → ℕ → Flight
flight_of e journal own = record {
  altitude = λ cycle. altitude_units (position e own cycle).z;
  rate = λ cycle. rate_units (rate_in (λ (leg : Leg). leg.vz) (legs_of e own) cycle);
  shown = λ cycle. shown (commit_cells journal own cycle);
}

-- The altitude of an aircraft in a cycle of the run. One that gives no resolution advisories flies as planned.
unfoldable pub flown : Parts → List Entry → ℕ → ℕ → ℤ
flown e journal own cycle =
    let flight = flight_of e journal own in
    if is_ra (air_of e) own then flown_from flight cycle (first_advised flight e.cycles) else flight.altitude cycle
