-- What an aircraft sees doesn't depend on fates and plans.
use Rattle.std.proofs.Common.{◌≡◌, ℕ, cond, eqb, List, None, refl, ap, le_refl}
use Rattle.std.specs.List.{list_any}
use Rattle.std.specs.Option.{option_and_then, option_map_or}
use Rattle.std.specs.Prelude.{filter, length, option_map, slice_get}
use Rattle.acas_base.specs.Encounter.{Parts, address_in}
use Rattle.acas_base.specs.Next.{rank_by}
use Rattle.acas_base.specs.declared.craft.CraftSpec.{CraftSpec}
use Rattle.acas_base.specs.declared.craft.Leg.{Leg}
use Rattle.air_journal.specs.Airs.{air_of}
use Rattle.air_journal.specs.Alike.{AreAlikeButFates}
use Rattle.air_rules.specs.Alike.{AreAlikeButCopies}
use Rattle.craft_view.proofs.Alike.{sights-alike}
use Rattle.craft_view.specs.Facts.{SeesAlike}
use Rattle.flight.specs.Flight.{nowhere, place_in, position, start_of}
use Rattle.flight.specs.Measurement.{covers, feet, measured, measurement, newest_first, own_altitude}
use Rattle.flight.specs.declared.place.Place.{Place}

same-position : (e f : Parts) → AreAlikeButFates e f → (craft cycle : ℕ) → position e craft cycle ≡ position f craft cycle
unfolding position
same-position e f h craft cycle = λ t.
    option_map_or (λ (spec : CraftSpec). place_in (start_of spec) (filter (λ (leg : Leg). eqb leg.craft craft) (h.legs t)) cycle) (slice_get (h.crafts t) craft) nowhere

same-measurement : (e f : Parts) → AreAlikeButFates e f → (own target cycle : ℕ) → measurement e own target cycle ≡ measurement f own target cycle
unfolding measurement
same-measurement e f h own target cycle =
    let here = same-position e f h own cycle in
    let there = same-position e f h target cycle in
    λ t. cond (list_any (covers own target cycle) (h.misses t)) None (measured (here t) (there t))

same-altitude : (e f : Parts) → AreAlikeButFates e f → (own cycle : ℕ) → own_altitude e own cycle ≡ own_altitude f own cycle
unfolding own_altitude
same-altitude e f h own cycle = ap (λ (place : Place). feet place.z) (same-position e f h own cycle)

same-sight : (e f : Parts) → AreAlikeButFates e f → (own cycle : ℕ) → SeesAlike e f own cycle
same-sight e f h own cycle = λ t. record {
  profile = h.profile t;
  range = h.range t;
  altitude = h.altitude t;
  elevation = h.elevation t;
  kind = option_map (λ (craft : CraftSpec). craft.kind) (slice_get (h.crafts t) own);
  ceiling = option_and_then (λ (craft : CraftSpec). craft.ceiling) (slice_get (h.crafts t) own);
  own = newest_first (λ k. same-altitude e f h own k t) cycle;
  others = λ index. option_map (λ (craft : CraftSpec). record {
    kind = craft.kind;
    rank = rank_by (address_in (h.crafts t) own) craft.address craft.kind;
    seen = newest_first (λ k. same-measurement e f h own index k t) cycle;
  }) (cond (eqb index own) None (slice_get (h.crafts t) index));
}

pub alike-but-copies : (e f : Parts) → AreAlikeButFates e f → AreAlikeButCopies (air_of e) (air_of f)
alike-but-copies e f h = record {
  aircraft = record {
    count = ap (λ (crafts : List CraftSpec). length crafts) h.crafts;
    places = refl;
    cycles = h.cycles;
    kind = λ own. ap (λ (crafts : List CraftSpec). option_map (λ (craft : CraftSpec). craft.kind) (slice_get crafts own)) h.crafts;
    address = λ own. ap (λ (crafts : List CraftSpec). address_in crafts own) h.crafts;
    word = λ message. refl;
    read = λ word. refl;
    flip = λ word mask. refl;
  };
  view = λ own other cycle. (sights-alike e f own cycle (same-sight e f h own cycle)).views other cycle (le_refl _);
}
