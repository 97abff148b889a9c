-- An aircraft that flies later is where it was so many cycles before, and all others are where they were.
use Rattle.std.proofs.Common.{◌≡◌, ◌≢◌, ℕ, Bool, ◌-◌, ◌<◌, ◌≤◌, ℤ, pos, ◌*ℤ◌, ◌-ℤ◌, List, [], ◌++◌, length, get_or, set, Some, refl, sym, ap, ◌∙◌, arith, inl, inr, subst}
use Rattle.std.specs.Prelude.{All, ◌==◌, filter, nat_lt, slice_get}
use Rattle.std.specs.Option.{option_map_or}
use Rattle.std.proofs.lemmas.Bool.{cases_lt, eq-eqb, eqb-true, lt-ltb, le-ltb, ne_eqb}
use Rattle.std.proofs.lemmas.List.{append-nil, get_or-set_other, get_or-set_same, length-set}
use Rattle.std.proofs.lemmas.List.Elements.{filter-append}
use Rattle.std.proofs.lemmas.List.FromFn.{get_or-map-range_with_len, length-map-range_with_len}
use Rattle.std.proofs.lemmas.Option.{slice_get-get_or, slice_get_past}
use Rattle.acas_base.specs.Encounter.{Parts}
use Rattle.acas_base.specs.declared.craft.CraftSpec.{CraftSpec}
use Rattle.acas_base.specs.declared.craft.Leg.{Leg}
use Rattle.flight.specs.Flight.{legs_of, nowhere, place_in, position, start_of}
use Rattle.flight.specs.Inside.{IsInBox}
use Rattle.flight.specs.declared.place.Place.{Place}
use Rattle.leg_rows.proofs.OneFlight.{any-craft, position-at, same-place}
use Rattle.leg_rows.proofs.Through.{through}
use Rattle.leg_rows.proofs.Together.{filter-nothing, filter-whole, through-own}
use Rattle.leg_rows.specs.Flights.{at_place}
use Rattle.leg_rows.specs.Rows.{legs_through, place_of}
use Rattle.variants.proofs.Kept.{filter-apart, filter-within}
use Rattle.variants.proofs.Onward.{whole-foot}
use Rattle.variants.specs.Flights.{FliesLate, IsLate, drawn_place, nearest_foot, late_place, late_places, with_craft, with_legs}

-- The legs of the aircraft.
own-legs : (craft : ℕ) (places : List Place) (legs : List Leg) → filter (λ (leg : Leg). leg.craft == craft) (with_legs craft places legs) ≡ legs_through craft places
own-legs craft places legs =
    let own : Leg → Bool = λ leg. leg.craft == craft in
    let before : filter own (filter (λ (leg : Leg). nat_lt leg.craft craft) legs) ≡ [] =
    filter-apart own (λ (leg : Leg). nat_lt leg.craft craft) legs (λ leg h. let same = eqb-true leg.craft craft h in le-ltb leg.craft craft (omega (arith, same))) in
    let behind : filter own (filter (λ (leg : Leg). nat_lt craft leg.craft) legs) ≡ [] =
    filter-apart own (λ (leg : Leg). nat_lt craft leg.craft) legs (λ leg h. let same = eqb-true leg.craft craft h in le-ltb craft leg.craft (omega (arith, same))) in
    let there : filter own (legs_through craft places) ≡ legs_through craft places =
    filter-whole own (legs_through craft places) (λ k d h. eq-eqb (get_or (legs_through craft places) k d).craft craft (through-own craft places k d h)) in
    filter-append own (filter (λ (leg : Leg). nat_lt leg.craft craft) legs) (legs_through craft places ++ filter (λ (leg : Leg). nat_lt craft leg.craft) legs)
    ∙ rw (before, filter-append own (legs_through craft places) (filter (λ (leg : Leg). nat_lt craft leg.craft) legs), there, behind) (append-nil (legs_through craft places))

-- The legs of another one.
other-legs : (craft other : ℕ) (places : List Place) (legs : List Leg) → other ≢ craft
    → filter (λ (leg : Leg). leg.craft == other) (with_legs craft places legs) ≡ filter (λ (leg : Leg). leg.craft == other) legs
other-legs craft other places legs apart =
    let own : Leg → Bool = λ leg. leg.craft == other in
    let none : filter own (legs_through craft places) ≡ [] =
    filter-nothing own (legs_through craft places) (λ k d h. ne_eqb (get_or (legs_through craft places) k d).craft other (λ e. apart (sym e ∙ through-own craft places k d h))) in
    filter-append own (filter (λ (leg : Leg). nat_lt leg.craft craft) legs) (legs_through craft places ++ filter (λ (leg : Leg). nat_lt craft leg.craft) legs)
    ∙ rw (filter-append own (legs_through craft places) (filter (λ (leg : Leg). nat_lt craft leg.craft) legs), none) (elim (cases_lt other craft) [
      | inl h ↦
          let before : filter own (filter (λ (leg : Leg). nat_lt leg.craft craft) legs) ≡ filter own legs =
          filter-within own (λ (leg : Leg). nat_lt leg.craft craft) legs (λ leg g. let same = eqb-true leg.craft other g in lt-ltb leg.craft craft (omega (arith, same, h))) in
          let behind : filter own (filter (λ (leg : Leg). nat_lt craft leg.craft) legs) ≡ [] =
          filter-apart own (λ (leg : Leg). nat_lt craft leg.craft) legs (λ leg g. let same = eqb-true leg.craft other g in le-ltb craft leg.craft (omega (arith, same, h))) in
          rw (before, behind) (append-nil (filter own legs))
      | inr h ↦
          let before : filter own (filter (λ (leg : Leg). nat_lt leg.craft craft) legs) ≡ [] =
          filter-apart own (λ (leg : Leg). nat_lt leg.craft craft) legs (λ leg g. let same = eqb-true leg.craft other g in le-ltb leg.craft craft (omega (arith, same, h))) in
          let behind : filter own (filter (λ (leg : Leg). nat_lt craft leg.craft) legs) ≡ filter own legs =
          filter-within own (λ (leg : Leg). nat_lt craft leg.craft) legs (λ leg g. let same = eqb-true leg.craft other g in lt-ltb craft leg.craft (above other craft leg.craft h apart same)) in
          rw (before, behind) refl
    ])
  where
    above : (other craft n : ℕ) → craft ≤ other → other ≢ craft → n ≡ other → craft < n
    above other craft n h apart same = elim (cases_lt craft other) [
      | inl g ↦ omega (arith, same, g)
      | inr g ↦ absurd (apart (omega (arith, h, g)))
    ]

-- The changed aircraft, and another one.
pub craft-there : (crafts : List CraftSpec) (index : ℕ) (change : CraftSpec → CraftSpec) (d : CraftSpec) → index < length crafts → with_craft index change crafts ≡ set crafts index (change (get_or crafts index d))
craft-there crafts index change d within = ap (λ o. option_map_or (λ (craft : CraftSpec). set crafts index (change craft)) o crafts) (slice_get-get_or crafts index d within)

other-craft : (crafts : List CraftSpec) (index other : ℕ) (craft : CraftSpec) → other ≢ index → slice_get (set crafts index craft) other ≡ slice_get crafts other
other-craft crafts index other craft apart = elim (cases_lt other (length crafts)) [
  | inl h ↦
      slice_get-get_or (set crafts index craft) other craft (omega (arith, h, length-set crafts index craft))
      ∙ ap Some (get_or-set_other crafts index other craft craft apart)
      ∙ sym (slice_get-get_or crafts other craft h)
  | inr h ↦ slice_get_past (set crafts index craft) other (omega (arith, h, length-set crafts index craft)) ∙ sym (slice_get_past crafts other h)
]

position-by : (d e : Parts) (other cycle : ℕ) → slice_get d.crafts other ≡ slice_get e.crafts other → legs_of d other ≡ legs_of e other → position d other cycle ≡ position e other cycle
unfolding position
position-by d e other cycle craft legs =
    ap (λ l. option_map_or (λ spec. place_in (start_of spec) l cycle) (slice_get d.crafts other) nowhere) legs
    ∙ ap (λ o. option_map_or (λ spec. place_in (start_of spec) (legs_of e other) cycle) o nowhere) craft

places-at : (e : Parts) (craft : ℕ) (late : ℤ) (cycle : ℕ) → 1 ≤ cycle → cycle ≤ e.cycles → place_of (late_places e craft late) cycle ≡ late_place e craft late cycle
unfolding late_places
places-at e craft late cycle first last = get_or-map-range_with_len (late_place e craft late) 1 e.cycles (cycle - 1) cycle nowhere (omega arith) (omega arith)

places-long : (e : Parts) (craft : ℕ) (late : ℤ) → length (late_places e craft late) ≡ e.cycles
unfolding late_places
places-long e craft late = length-map-range_with_len (late_place e craft late) 1 e.cycles

begins-late : (e : Parts) (craft : ℕ) (late : ℤ) (spec : CraftSpec) → start_of (at_place spec (late_place e craft late 1)) ≡ late_place e craft late 1
begins-late e craft late spec =
    let place = late_place e craft late 1 in
    same-place (start_of (at_place spec place)) place refl refl (ap (λ q. pos 60 *ℤ q) (whole-foot (nearest_foot (drawn_place e craft (pos 1 -ℤ late)).z)))

pub own-late : (e : Parts) (craft : ℕ) (late : ℤ) (d : Parts) → IsLate e craft late d → (cycle : ℕ) → 1 ≤ cycle → cycle ≤ e.cycles → position d craft cycle ≡ late_place e craft late cycle
own-late e craft late d is cycle first last =
    let places = late_places e craft late in
    let spec = get_or e.crafts craft any-craft in
    let place = late_place e craft late 1 in
    let crafts : d.crafts ≡ set e.crafts craft (at_place spec place) = is.crafts ∙ craft-there e.crafts craft (λ s. at_place s place) any-craft is.there in
    let within : craft < length d.crafts = omega (arith, ap length crafts, length-set e.crafts craft (at_place spec place), is.there) in
    let here : get_or d.crafts craft any-craft ≡ at_place spec place = ap (λ l. get_or l craft any-craft) crafts ∙ get_or-set_same e.crafts craft (at_place spec place) any-craft is.there in
    let legs : legs_of d craft ≡ legs_through craft places = ap (filter (λ (leg : Leg). leg.craft == craft)) is.legs ∙ own-legs craft places e.legs in
    let start : start_of (get_or d.crafts craft any-craft) ≡ place_of places 1 = ap start_of here ∙ begins-late e craft late spec ∙ sym (places-at e craft late 1 (omega arith) (omega (arith, first, last))) in
    sym (position-at d craft cycle within)
    ∙ ap (λ s. place_in s (legs_of d craft) cycle) start
    ∙ ap (λ l. place_in (place_of places 1) l cycle) legs
    ∙ through craft places cycle first (omega (arith, last, places-long e craft late))
    ∙ places-at e craft late cycle first last

others-late : (e : Parts) (craft : ℕ) (late : ℤ) (d : Parts) → IsLate e craft late d → (other cycle : ℕ) → other ≢ craft → position d other cycle ≡ position e other cycle
others-late e craft late d is other cycle apart =
    let place = late_place e craft late 1 in
    let spec = get_or e.crafts craft any-craft in
    position-by d e other cycle
    (ap (λ l. slice_get l other) (is.crafts ∙ craft-there e.crafts craft (λ s. at_place s place) any-craft is.there) ∙ other-craft e.crafts craft other (at_place spec place) apart)
    (ap (filter (λ (leg : Leg). leg.craft == other)) is.legs ∙ other-legs craft other (late_places e craft late) e.legs apart)

pub flies-late : (e : Parts) (craft : ℕ) (late : ℤ) (d : Parts) → IsLate e craft late d → FliesLate e craft late d
flies-late e craft late d is = record { own = own-late e craft late d is; others = others-late e craft late d is }

-- Where all places of the later flight are in the box, that of a cycle is.
pub boxed-place : (e : Parts) (craft : ℕ) (late : ℤ) (k : ℕ) → All IsInBox (late_places e craft late) → 1 ≤ k → k ≤ e.cycles → IsInBox (late_place e craft late k)
boxed-place e craft late k all first last =
    let P : Place → Type 0 = λ p. IsInBox p in
    subst P (places-at e craft late k first last) (all (k - 1) nowhere (omega (arith, places-long e craft late)))
