-- What rates can be, in ft/min and in 1/1024 ft/s.
use Rattle.std.proofs.Common.{◌≡◌, ℕ, zero, suc, ◌+◌, ◌-◌, ◌<◌, ◌≤◌, ◌^◌, ◌==◌, ℤ, pos, ◌+ℤ◌, ◌-ℤ◌, ◌≤ℤ◌, unsigned_abs, Option, Some, None, length, get_or, arith}
use Rattle.std.specs.Prelude.{IfSome}
use Rattle.std.specs.Option.{option_map_or}
use Rattle.std.proofs.lemmas.List.Elements.{All-filter}
use Rattle.std.proofs.lemmas.Option.{slice_get-get_or}
use Rattle.std.proofs.lemmas.Int.{clamps, ints}
use Rattle.acas_base.specs.Encounter.{IsEncounter, Parts}
use Rattle.acas_base.specs.Ranges.{IsWithin}
use Rattle.acas_base.specs.Strengths.{floor_of}
use Rattle.acas_base.specs.declared.advisory.Sense.{Sense}
use Rattle.acas_base.specs.declared.advisory.Sense.TheVariants.{Up, Down}
use Rattle.acas_base.specs.declared.advisory.Strength.{Strength}
use Rattle.acas_base.specs.declared.advisory.Strength.TheVariants.{Limit2000, Limit1000, Limit500, Level, Positive, Increase}
use Rattle.acas_base.specs.declared.craft.CraftSpec.{CraftSpec}
use Rattle.acas_base.specs.declared.craft.Kind.TheVariants as kinds
use Rattle.acas_base.specs.declared.craft.Leg.{Leg}
use Rattle.acas_num.specs.Clamp.{clamped}
use Rattle.craft_view.specs.Separations.{asked_rate}
use Rattle.flight.proofs.Latest.{leg-has}
use Rattle.flight.specs.Flight.{carried, leg_in, legs_of, position, rate_in, start_of}
use Rattle.response.specs.Flown.{toward}

floor-bound : (strength : Strength) → unsigned_abs (floor_of strength) ≤ 2 ^ 18
floor-bound Limit2000 = omega arith
floor-bound Limit1000 = omega arith
floor-bound Limit500 = omega arith
floor-bound Level = omega arith
floor-bound Positive = omega arith
floor-bound Increase = omega arith

-- What is asked for is no faster than the rate so far or a floor.
pub asked-bound : (sense : Sense) (strength : Strength) (rate : ℤ) → unsigned_abs rate ≤ 2 ^ 18 → unsigned_abs (asked_rate sense strength rate) ≤ 2 ^ 18
unfolding asked_rate
asked-bound Up strength rate h = let f = floor-bound strength in omega (arith, ints, clamps)
asked-bound Down strength rate h = let f = floor-bound strength in omega (arith, ints, clamps)

-- A rate on its way to a goal isn't faster than both.
pub toward-bound : (goal step rate : ℤ) → pos 1 ≤ℤ step → unsigned_abs goal ≤ 2 ^ 18 → unsigned_abs rate ≤ 2 ^ 18 → unsigned_abs (toward goal step rate) ≤ 2 ^ 18
unfolding clamped
toward-bound goal step rate forward g r = omega (arith, ints, clamps)

-- ---- as planned

abbrev any-craft : CraftSpec
any-craft = record { address = 0; kind = kinds.Ra; x = pos 0; y = pos 0; alt = pos 0; ceiling = None }

step : (from earlier rate : ℤ) → (from +ℤ (earlier +ℤ rate)) -ℤ (from +ℤ earlier) ≡ rate
step from earlier rate = omega (arith, ints)

-- From a cycle to the next one an altitude in 1/60 ft changes by the rate of the leg that is flown.
pub vertical : (e : Parts) (own cycle : ℕ) → own < length e.crafts → 1 ≤ cycle → (position e own (cycle + 1)).z -ℤ (position e own cycle).z ≡ rate_in (λ (leg : Leg). leg.vz) (legs_of e own) cycle
unfolding position carried
vertical e own zero within some = absurd (omega arith)
vertical e own (suc n) within some =
    let spec = get_or e.crafts own any-craft in
    let vz : Leg → ℤ = λ leg. leg.vz in
    let legs = legs_of e own in
    let next : suc n + 1 - 1 ≡ suc n = omega arith in
    let back : suc n - 1 ≡ n = omega arith in
    rw (slice_get-get_or e.crafts own any-craft within, next, back) (step (start_of spec).z (carried vz legs n) (rate_in vz legs (suc n)))

within-some : (rate : Leg → ℤ) (leg : Option Leg) → IfSome leg (λ l. IsWithin 10000 (rate l)) → IsWithin 10000 (option_map_or rate leg (pos 0))
within-some rate None h = (omega (arith, ints), omega (arith, ints))
within-some rate (Some leg) h = h

pub rate-small : (e : Parts) (own cycle : ℕ) → IsEncounter e → IsWithin 10000 (rate_in (λ (leg : Leg). leg.vz) (legs_of e own) cycle)
unfolding rate_in
rate-small e own cycle is =
    within-some (λ (leg : Leg). leg.vz) (leg_in (legs_of e own) cycle)
    (leg-has (λ (leg : Leg). IsWithin 10000 leg.vz) (legs_of e own) cycle
    (All-filter (λ (leg : Leg). leg.craft == own) (λ (leg : Leg). IsWithin 10000 leg.vz) e.legs (λ k d h. (is.records.legs.0 k d h).rates.vz)))
