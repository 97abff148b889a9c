-- Where the aircraft of an encounter are, and what they measure.
use Rattle.std.proofs.Common.{◌≡◌, ℕ, ◌<◌, ◌≤◌, true, false, List, length, get_or, None, refl, sym, ◌∙◌, ap, subst}
use Rattle.std.specs.Prelude.{◌↔◌}
use Rattle.std.proofs.lemmas.Option.{slice_get_past, slice_get_read}
use Rattle.acas_base.specs.Encounter.{Parts}
use Rattle.acas_base.specs.declared.craft.CraftSpec.{CraftSpec}
use Rattle.acas_base.specs.declared.craft.Leg.{Leg}
use Rattle.flight.proofs.Staying.{StaysTo}
use Rattle.flight.specs.Flight.{legs_of, nowhere, place_in, position, start_of}
use Rattle.flight.specs.Inside.{IsInBox}
use Rattle.flight.specs.Measurement.{is_missed, measured, measurement}
use Rattle.flight.specs.declared.place.Place.{Place}

pub position-of : (e : Parts) (craft cycle : ℕ) (spec : CraftSpec) → craft < length e.crafts → spec ≡ get_or e.crafts craft spec
    → place_in (start_of spec) (legs_of e craft) cycle ≡ position e craft cycle
unfolding position
position-of e craft cycle spec within is = rw (slice_get_read e.crafts (length e.crafts) craft spec refl within is) refl

pub position-past : (e : Parts) (craft cycle : ℕ) → length e.crafts ≤ craft → nowhere ≡ position e craft cycle
unfolding position
position-past e craft cycle past = rw (slice_get_past e.crafts craft past) refl

pub measurement-missed : (e : Parts) (own target cycle : ℕ) → is_missed e own target cycle ≡ true → None ≡ measurement e own target cycle
unfolding measurement
measurement-missed e own target cycle h = rw h refl

pub measurement-made : (e : Parts) (own target cycle : ℕ) → is_missed e own target cycle ≡ false → measured (position e own cycle) (position e target cycle) ≡ measurement e own target cycle
unfolding measurement
measurement-made e own target cycle h = rw h refl

-- An aircraft is in the box in all cycles where its start and its legs keep it there.
pub stays-aircraft : (e : Parts) (craft cycles : ℕ) (start : Place) (legs : List Leg) (spec : CraftSpec) → craft < length e.crafts → spec ≡ get_or e.crafts craft spec
    → start ≡ start_of spec → legs ≡ legs_of e craft → cycles ≡ e.cycles
    → StaysTo start legs cycles ↔ ((cycle : ℕ) → 1 ≤ cycle → cycle ≤ e.cycles → IsInBox (position e craft cycle))
stays-aircraft e craft cycles start legs spec within is from flies last =
    (λ stays k first late. subst P (same k) (stays k first (rw last late)), λ all k first late. subst P (sym (same k)) (all k first (rw (← last) late)))
  where
    P : Place → Type 0
    P p = IsInBox p

    same : (k : ℕ) → place_in start legs k ≡ position e craft k
    same k = ap (λ s. place_in s legs k) from ∙ ap (λ l. place_in (start_of spec) l k) flies ∙ position-of e craft k spec within is
