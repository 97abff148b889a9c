-- Places second by second, and the legs that lead through them.
use Rattle.std.specs.Prelude.{◌≡◌, ◌≢◌, ℕ, zero, suc, ◌-◌, ◌<◌, ◌≤◌, Bool, not, ◌&&◌, pos, ◌-ℤ◌, List, [], ◌∷◌, filter, length, map, slice_index_or}
use Rattle.std.specs.List.{range_with_len}
use Rattle.std.specs.Ordering.{int_eq}
use Rattle.acas_base.specs.Encounter.{AreRates, Parts}
use Rattle.acas_base.specs.declared.craft.Leg.{Leg}
use Rattle.flight.specs.Flight.{nowhere, place_in, position}
use Rattle.flight.specs.declared.place.Place.{Place}
use Rattle.leg_rows.specs.declared.rates.Rates.{Rates}

-- The rates of an aircraft that doesn't move.
abbrev pub at_rest : Rates
at_rest = record { vx = pos 0; vy = pos 0; vz = pos 0 }

-- The rates that lead from one place to another one in a second.
abbrev pub change : Place → Place → Rates
change p q = record { vx = q.x -ℤ p.x; vy = q.y -ℤ p.y; vz = q.z -ℤ p.z }

abbrev pub rates_of : Leg → Rates
rates_of leg = record { vx = leg.vx; vy = leg.vy; vz = leg.vz }

-- The leg of an aircraft with these rates, from a cycle on.
abbrev pub leg_with : ℕ → ℕ → Rates → Leg
leg_with craft from rates = record { craft = craft; from = from; vx = rates.vx; vy = rates.vy; vz = rates.vz }

abbrev pub same_rates : Rates → Rates → Bool
same_rates a b = int_eq a.vx b.vx && int_eq a.vy b.vy && int_eq a.vz b.vz

-- The place in a cycle, in a list of the places in the cycles from 1 on.
abbrev pub place_of : List Place → ℕ → Place
place_of places cycle = slice_index_or places (cycle - 1) nowhere

-- The rates from a cycle to the next. Before cycle 1 an aircraft is at rest.
abbrev pub rates_from : List Place → ℕ → Rates
rates_from places zero = at_rest
rates_from places (suc n) = change (slice_index_or places n nowhere) (slice_index_or places (suc n) nowhere)

-- Whether the rates from a cycle to the next aren't those from the cycle before it.
abbrev pub is_turn : (ℕ → Rates) → ℕ → Bool
is_turn rates cycle = not (same_rates (rates (cycle - 1)) (rates cycle))

-- Legs with given rates in each cycle, in the `count` cycles after one. A leg begins where the rates change.
abbrev pub legs_by : ℕ → (ℕ → Rates) → ℕ → ℕ → List Leg
legs_by craft rates first count = map (λ cycle. leg_with craft cycle (rates cycle)) (filter (is_turn rates) (range_with_len first count))

-- The legs of an aircraft that lead it through these places.
unfoldable pub legs_through : ℕ → List Place → List Leg
legs_through craft places = legs_by craft (rates_from places) 1 (length places - 1)

-- An aircraft that begins at the first of these places and flies these legs is at each place in its cycle.
abbrev pub PassThrough : List Place → List Leg → Type 0
PassThrough places legs = (cycle : ℕ) → 1 ≤ cycle → cycle ≤ length places → place_in (place_of places 1) legs cycle ≡ place_of places cycle

-- Legs of an aircraft, each of which is needed: its rates aren't those before it. They begin after a cycle, one after
-- the other, and before the last cycle of the run.
abbrev pub AreNeeded : ℕ → ℕ → Rates → ℕ → List Leg → Type 0
AreNeeded craft cycles before after [] = Unit {0}
AreNeeded craft cycles before after (leg ∷ legs) =
    (leg.craft ≡ craft) × (after < leg.from) × (leg.from < cycles) × (rates_of leg ≢ before) × AreNeeded craft cycles (rates_of leg) leg.from legs

-- Rates that a leg can have.
abbrev pub AreLegRates : Rates → Type 0
AreLegRates rates = AreRates (leg_with 0 1 rates)

-- From each cycle to the next a leg can lead.
abbrev pub AreFlyable : List Place → Type 0
AreFlyable places = (cycle : ℕ) → 1 ≤ cycle → cycle < length places → AreLegRates (rates_from places cycle)

-- The first cycle from which no leg can lead to the next place.
pub record IsFirstExcess (places : List Place) (cycle : ℕ) : Type 0 where
  pub begun : 1 ≤ cycle
  pub in_run : cycle < length places
  pub excess : AreLegRates (rates_from places cycle) → ⊥
  pub first : (k : ℕ) → 1 ≤ k → k < cycle → AreLegRates (rates_from places k)

-- The places of an aircraft in the cycles of the run.
unfoldable pub places_of : Parts → ℕ → List Place
places_of e craft = map (position e craft) (range_with_len 1 e.cycles)
