-- What an aircraft sees up to a cycle doesn't depend on what comes later.
use Rattle.std.proofs.Common.{◌≡◌, ℕ, zero, suc, ◌≤◌, ℤ, Bool, true, false, cond, eqb, List, ◌∷◌, Option, Some, None, refl, sym, ◌∙◌, ap, arith, le_refl}
use Rattle.std.specs.List.{list_any}
use Rattle.std.specs.Option.{option_and_then, option_map_or}
use Rattle.std.specs.Prelude.{find, option_map, slice_get, unwrap_or}
use Rattle.acas_base.specs.Encounter.{Parts}
use Rattle.acas_base.specs.Fates.{copies_of, fate_by, fate_of, is_fate_of, is_plan_of, plain_fate}
use Rattle.acas_base.specs.Next.{rank_by}
use Rattle.acas_base.specs.declared.craft.CraftSpec.{CraftSpec}
use Rattle.air_journal.specs.Airs.{address_of, air_of, kind_of}
use Rattle.air_journal.specs.Alike.{FlyAlikeUpTo, without_place}
use Rattle.air_rules.specs.Alike.{AreAlikeUpTo}
use Rattle.craft_view.proofs.Alike.{sights-alike}
use Rattle.craft_view.specs.Facts.{SeesAlike}
use Rattle.craft_view.specs.Sight.{Other, known_of}
use Rattle.flight.specs.Measurement.{covers, feet, measured, measurement, newest_first, own_altitude}
use Rattle.flight.specs.declared.measuring.Meas.{Meas}
use Rattle.flight.specs.declared.place.Place.{Place}

-- ---- what doesn't depend on places

by-kind : (o : Option CraftSpec) → option_map (λ (craft : CraftSpec). craft.kind) o ≡ option_map (λ (craft : CraftSpec). craft.kind) (option_map without_place o)
by-kind None = refl
by-kind (Some craft) = refl

by-ceiling : (o : Option CraftSpec) → option_and_then (λ (craft : CraftSpec). craft.ceiling) o ≡ option_and_then (λ (craft : CraftSpec). craft.ceiling) (option_map without_place o)
by-ceiling None = refl
by-ceiling (Some craft) = refl

by-address : (o : Option CraftSpec) → option_map_or (λ (craft : CraftSpec). craft.address) o 0 ≡ option_map_or (λ (craft : CraftSpec). craft.address) (option_map without_place o) 0
by-address None = refl
by-address (Some craft) = refl

same-kind : (e f : Parts) (last : ℕ) → FlyAlikeUpTo e f last → (own : ℕ) → kind_of e own ≡ kind_of f own
same-kind e f last h own =
    by-kind (slice_get e.crafts own) ∙ ap (λ (o : Option CraftSpec). option_map (λ (craft : CraftSpec). craft.kind) o) (h.crafts own) ∙ sym (by-kind (slice_get f.crafts own))

same-ceiling : (e f : Parts) (last : ℕ) → FlyAlikeUpTo e f last → (own : ℕ) →
    option_and_then (λ (craft : CraftSpec). craft.ceiling) (slice_get e.crafts own) ≡ option_and_then (λ (craft : CraftSpec). craft.ceiling) (slice_get f.crafts own)
same-ceiling e f last h own =
    by-ceiling (slice_get e.crafts own) ∙ ap (λ (o : Option CraftSpec). option_and_then (λ (craft : CraftSpec). craft.ceiling) o) (h.crafts own) ∙ sym (by-ceiling (slice_get f.crafts own))

same-address : (e f : Parts) (last : ℕ) → FlyAlikeUpTo e f last → (own : ℕ) → address_of e own ≡ address_of f own
same-address e f last h own =
    by-address (slice_get e.crafts own) ∙ ap (λ (o : Option CraftSpec). option_map_or (λ (craft : CraftSpec). craft.address) o 0) (h.crafts own) ∙ sym (by-address (slice_get f.crafts own))

same-fate : (e f : Parts) (last : ℕ) → FlyAlikeUpTo e f last → (sender receiver number : ℕ) → fate_of e sender receiver number ≡ fate_of f sender receiver number
same-fate e f last h sender receiver number = λ t.
    unwrap_or (find (is_fate_of sender receiver number) (h.fates t)) (option_map_or (fate_by number) (find (is_plan_of sender receiver) (h.plans t)) (plain_fate sender receiver number))

-- ---- what is measured

same-measurement : (e f : Parts) (last : ℕ) → FlyAlikeUpTo e f last → (own target cycle : ℕ) → 1 ≤ cycle → cycle ≤ last → measurement e own target cycle ≡ measurement f own target cycle
unfolding measurement
same-measurement e f last h own target cycle low high =
    let here = h.places own cycle low high in
    let there = h.places target cycle low high in
    λ t. cond (list_any (covers own target cycle) (h.misses t)) None (measured (here t) (there t))

same-altitude : (e f : Parts) (last : ℕ) → FlyAlikeUpTo e f last → (own cycle : ℕ) → 1 ≤ cycle → cycle ≤ last → own_altitude e own cycle ≡ own_altitude f own cycle
unfolding own_altitude
same-altitude e f last h own cycle low high = ap (λ (place : Place). feet place.z) (h.places own cycle low high)

-- Two functions that are equal in the cycles 1 to n give equal lists.
same-newest : (X : Type 0) (a b : ℕ → X) (n : ℕ) → ((k : ℕ) → 1 ≤ k → k ≤ n → a k ≡ b k) → newest_first a n ≡ newest_first b n
same-newest X a b zero same = refl
same-newest X a b (suc n) same =
    let first = same (suc n) (omega arith) (omega arith) in
    let rest = same-newest X a b n (λ k low high. same k low (omega arith)) in
    λ t. first t ∷ rest t

-- ---- what is known

known-by : ℕ → List (Option Meas) → CraftSpec → Other
known-by address seen craft = record { kind = craft.kind; rank = rank_by address craft.address craft.kind; seen = seen }

by-craft : (e : Parts) (own cycle index : ℕ) (b : Bool) (o : Option CraftSpec) →
    option_map (known_of e own cycle index) (cond b None o) ≡ option_map (known-by (address_of e own) (newest_first (measurement e own index) cycle)) (cond b None (option_map without_place o))
unfolding known-by
by-craft e own cycle index true o = refl
by-craft e own cycle index false None = refl
by-craft e own cycle index false (Some craft) = refl

same-sight : (e f : Parts) (last : ℕ) → FlyAlikeUpTo e f last → (own cycle : ℕ) → cycle ≤ last → SeesAlike e f own cycle
same-sight e f last h own cycle within = λ t. record {
  profile = h.profile t;
  range = h.range t;
  altitude = h.altitude t;
  elevation = h.elevation t;
  kind = kind t;
  ceiling = ceiling t;
  own = altitudes t;
  others = λ index. others index t;
}
  where
    kind : kind_of e own ≡ kind_of f own
    kind = same-kind e f last h own

    ceiling : option_and_then (λ (craft : CraftSpec). craft.ceiling) (slice_get e.crafts own) ≡ option_and_then (λ (craft : CraftSpec). craft.ceiling) (slice_get f.crafts own)
    ceiling = same-ceiling e f last h own

    altitudes : newest_first (own_altitude e own) cycle ≡ newest_first (own_altitude f own) cycle
    altitudes = same-newest ℤ (own_altitude e own) (own_altitude f own) cycle (λ k low high. same-altitude e f last h own k low (omega arith))

    seen : (index : ℕ) → newest_first (measurement e own index) cycle ≡ newest_first (measurement f own index) cycle
    seen index = same-newest (Option Meas) (measurement e own index) (measurement f own index) cycle (λ k low high. same-measurement e f last h own index k low (omega arith))

    others : (index : ℕ) → option_map (known_of e own cycle index) (cond (eqb index own) None (slice_get e.crafts index)) ≡ option_map (known_of f own cycle index) (cond (eqb index own) None (slice_get f.crafts index))
    others index =
        let address = same-address e f last h own in
        let all = seen index in
        let crafts = h.crafts index in
        by-craft e own cycle index (eqb index own) (slice_get e.crafts index)
        ∙ (λ t. option_map (known-by (address t) (all t)) (cond (eqb index own) None (crafts t)))
        ∙ sym (by-craft f own cycle index (eqb index own) (slice_get f.crafts index))

pub alike-up-to : (e f : Parts) (last : ℕ) → FlyAlikeUpTo e f last → AreAlikeUpTo (air_of e) (air_of f) last
alike-up-to e f last h = record {
  aircraft = record {
    count = h.count;
    places = refl;
    cycles = h.cycles;
    kind = same-kind e f last h;
    address = same-address e f last h;
    word = λ message. refl;
    read = λ word. refl;
    flip = λ word mask. refl;
  };
  copies = λ sender receiver number. ap copies_of (same-fate e f last h sender receiver number);
  view = λ own other cycle low high. (sights-alike e f own cycle (same-sight e f last h own cycle high)).views other cycle (le_refl _);
}
