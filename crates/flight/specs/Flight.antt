-- Where an aircraft is, second by second. x and y are in ft. z is in 1/60 ft, so that it changes by a rate in ft/min in
-- each second.
use Rattle.std.specs.Prelude.{◌≡◌, ℕ, zero, suc, ◌-◌, ◌<◌, ◌==◌, nat_lt, nat_le, if◌then◌else◌, ℤ, pos, ◌+ℤ◌, ◌*ℤ◌, List, Option, Some, None, filter, fold, slice_get, slice_index_or}
use Rattle.std.specs.Option.{option_map_or}
use Rattle.acas_base.specs.Encounter.{Parts}
use Rattle.acas_base.specs.declared.TheConstants.{CRAFTS}
use Rattle.acas_base.specs.declared.craft.CraftSpec.{CraftSpec}
use Rattle.acas_base.specs.declared.craft.Leg.{Leg}
use Rattle.flight.specs.Bounds.{IsReachable}
use Rattle.flight.specs.declared.place.Place.{Place}

-- The legs of an aircraft.
abbrev pub legs_of : Parts → ℕ → List Leg
legs_of e craft = filter (λ (leg : Leg). leg.craft == craft) e.legs

-- The best leg so far, or this one where it begins later.
abbrev pub later : Option Leg → Leg → Option Leg
later None leg = Some leg
later (Some best) leg = if nat_lt best.from leg.from then Some leg else Some best

-- The leg that is flown from a cycle to the next. Of the legs that begin in that cycle or before it, it is the one that
-- begins last.
unfoldable pub leg_in : List Leg → ℕ → Option Leg
leg_in legs cycle = fold later None (filter (λ (leg : Leg). nat_le leg.from cycle) legs)

-- One of the rates of that leg; zero where there is no such leg.
unfoldable pub rate_in : (Leg → ℤ) → List Leg → ℕ → ℤ
rate_in rate legs cycle = option_map_or rate (leg_in legs cycle) (pos 0)

-- How far a rate carries from cycle 1 over some cycles: the sum of its values in each of them.
unfoldable pub carried : (Leg → ℤ) → List Leg → ℕ → ℤ
carried rate legs zero = pos 0
carried rate legs (suc n) = carried rate legs n +ℤ rate_in rate legs (suc n)

-- The place in a cycle of an aircraft that has this start in cycle 1 and flies these legs.
abbrev pub place_in : Place → List Leg → ℕ → Place
place_in start legs cycle = record {
  x = start.x +ℤ carried (λ (leg : Leg). leg.vx) legs (cycle - 1);
  y = start.y +ℤ carried (λ (leg : Leg). leg.vy) legs (cycle - 1);
  z = start.z +ℤ carried (λ (leg : Leg). leg.vz) legs (cycle - 1);
}

-- Where an aircraft is in cycle 1.
abbrev pub start_of : CraftSpec → Place
start_of craft = record { x = craft.x; y = craft.y; z = pos 60 *ℤ craft.alt }

-- The place that stands for the place of an aircraft that doesn't exist.
abbrev pub nowhere : Place
nowhere = record { x = pos 0; y = pos 0; z = pos 0 }

-- Where an aircraft is in a cycle.
unfoldable pub position : Parts → ℕ → ℕ → Place
position e craft cycle = option_map_or (λ spec. place_in (start_of spec) (legs_of e craft) cycle) (slice_get e.crafts craft) nowhere

-- One cycle of an encounter.
pub record Moment : Type 0 where
  pub encounter : Parts
  pub cycle : ℕ

-- These are the places of all aircraft in a cycle, by index, and `nowhere` past the last one. No place is too far to be
-- measured.
pub record ArePlaces (e : Parts) (cycle : ℕ) (places : List Place) : Type 0 where
  pub at : (craft : ℕ) (d : Place) → craft < CRAFTS → slice_index_or places craft d ≡ position e craft cycle
  pub reachable : (craft : ℕ) → craft < CRAFTS → IsReachable (position e craft cycle)
