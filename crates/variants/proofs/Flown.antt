-- The leg that an aircraft flies.
use Rattle.std.proofs.Common.{◌≡◌, ℕ, List, [], ◌∷◌, ◌++◌, Option, Some, None, sym, ap, ◌∙◌, arith}
use Rattle.std.specs.Prelude.{◌==◌, filter, fold, nat_le, unwrap_or, IfSome}
use Rattle.std.proofs.lemmas.Int.{ints}
use Rattle.std.proofs.lemmas.List.Elements.{All-filter, filter-append}
use Rattle.std.proofs.lemmas.List.Sums.{fold-append}
use Rattle.acas_base.specs.Encounter.{AreRates, IsEncounter, Parts}
use Rattle.acas_base.specs.declared.craft.Leg.{Leg}
use Rattle.flight.proofs.Latest.{leg-has}
use Rattle.flight.specs.Flight.{later, leg_in, legs_of}
use Rattle.variants.specs.Drawn.{begun_legs}
use Rattle.variants.specs.Flights.{leg_from, resting}

begun-append : (craft cycle : ℕ) (xs ys : List Leg) → begun_legs craft cycle (xs ++ ys) ≡ begun_legs craft cycle xs ++ begun_legs craft cycle ys
begun-append craft cycle xs ys =
    ap (filter (λ (leg : Leg). nat_le leg.from cycle)) (filter-append (λ (leg : Leg). leg.craft == craft) xs ys)
    ∙ filter-append (λ (leg : Leg). nat_le leg.from cycle) (filter (λ (leg : Leg). leg.craft == craft) xs) (filter (λ (leg : Leg). leg.craft == craft) ys)

-- One more leg.
pub last-more : (craft cycle : ℕ) (xs : List Leg) (leg : Leg) → fold later (fold later None (begun_legs craft cycle xs)) (begun_legs craft cycle (leg ∷ [])) ≡ fold later None (begun_legs craft cycle (xs ++ leg ∷ []))
last-more craft cycle xs leg =
    sym (fold-append later None (begun_legs craft cycle xs) (begun_legs craft cycle (leg ∷ [])))
    ∙ ap (fold later None) (sym (begun-append craft cycle xs (leg ∷ [])))

pub last-all : (e : Parts) (craft cycle : ℕ) (last : Option Leg) → last ≡ fold later None (begun_legs craft cycle e.legs) → unwrap_or last resting ≡ leg_from e craft cycle
unfolding leg_in
last-all e craft cycle last is = ap (λ o. unwrap_or o resting) is

or-resting : (leg : Option Leg) → IfSome leg AreRates → AreRates (unwrap_or leg resting)
or-resting None h = record { vx = (omega (arith, ints), omega (arith, ints)); vy = (omega (arith, ints), omega (arith, ints)); vz = (omega (arith, ints), omega (arith, ints)) }
or-resting (Some leg) h = h

pub flown-rates : (e : Parts) (craft cycle : ℕ) → IsEncounter e → AreRates (leg_from e craft cycle)
flown-rates e craft cycle is =
    or-resting (leg_in (legs_of e craft) cycle)
    (leg-has AreRates (legs_of e craft) cycle (All-filter (λ (leg : Leg). leg.craft == craft) AreRates e.legs (λ k d h. (is.records.legs.0 k d h).rates)))
