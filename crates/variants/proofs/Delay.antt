-- The places of an aircraft that flies later, and where there is no variant with a later flight.
use Rattle.std.proofs.Common.{◌≡◌, ℕ, ◌+◌, ◌<◌, ◌≤◌, ℤ, List, length, get_or, sym, ap, ◌∙◌, arith, subst}
use Rattle.std.specs.Prelude.{All}
use Rattle.std.proofs.lemmas.List.{length-set}
use Rattle.std.proofs.lemmas.List.FromFn.{get_or-map-range_with_len, length-map-range_with_len}
use Rattle.acas_base.specs.Encounter.{IsEncounter, Parts}
use Rattle.flight.specs.Bounds.{IsReachable}
use Rattle.flight.specs.Flight.{position}
use Rattle.flight.specs.Inside.{IsInBox, IsInside}
use Rattle.flight.specs.declared.place.Place.{Place}
use Rattle.leg_rows.proofs.Begun.{box-near}
use Rattle.leg_rows.proofs.OneFlight.{any-craft}
use Rattle.leg_rows.specs.Flights.{at_place}
use Rattle.variants.proofs.Later.{craft-there, own-late}
use Rattle.variants.specs.Flights.{IsLate, late_place, late_places}

-- A place for each cycle of the run.
late-long : (e : Parts) (craft : ℕ) (late : ℤ) → length (late_places e craft late) ≡ e.cycles
unfolding late_places
late-long e craft late = length-map-range_with_len (late_place e craft late) 1 e.cycles

late-at : (e : Parts) (craft : ℕ) (late : ℤ) (k : ℕ) (d : Place) → k < e.cycles → get_or (late_places e craft late) k d ≡ late_place e craft late (k + 1)
unfolding late_places
late-at e craft late k d within = get_or-map-range_with_len (late_place e craft late) 1 e.cycles k (k + 1) d within (omega arith)

pub late-some : (e : Parts) (craft : ℕ) (late : ℤ) (places : List Place) → IsEncounter e → places ≡ late_places e craft late → 0 < length places
late-some e craft late places is same = omega (arith, ap length same, late-long e craft late, is.run.length.0)

pub late-few : (e : Parts) (craft : ℕ) (late : ℤ) (places : List Place) → IsEncounter e → places ≡ late_places e craft late → length places ≤ 600
late-few e craft late places is same = omega (arith, ap length same, late-long e craft late, is.run.length.1)

pub late-first : (e : Parts) (craft : ℕ) (late : ℤ) (places : List Place) (d : Place) → IsEncounter e → places ≡ late_places e craft late → get_or places 0 d ≡ late_place e craft late 1
late-first e craft late places d is same = ap (λ l. get_or l 0 d) same ∙ late-at e craft late 0 d is.run.length.0

pub all-near : (places : List Place) → All IsInBox places → All IsReachable places
all-near places all k d h = box-near (get_or places k d) (all k d h)

-- Where the later flight leaves the box there is no variant.
pub none-late : (e d : Parts) (craft : ℕ) (late : ℤ) → (All IsInBox (late_places e craft late) → ⊥) → IsInside d → IsLate e craft late d → ⊥
none-late e d craft late none inside is = none (λ k x h. boxed k x (omega (arith, h, late-long e craft late))) where
  long : length d.crafts ≡ length e.crafts
  long =
      let first = late_place e craft late 1 in
      ap length (is.crafts ∙ craft-there e.crafts craft (λ s. at_place s first) any-craft is.there)
      ∙ length-set e.crafts craft (at_place (get_or e.crafts craft any-craft) first)

  boxed : (k : ℕ) (x : Place) → k < e.cycles → IsInBox (get_or (late_places e craft late) k x)
  boxed k x h =
      let own : position d craft (k + 1) ≡ late_place e craft late (k + 1) = own-late e craft late d is (k + 1) (omega arith) (omega (arith, h)) in
      let P : Place → Type 0 = λ p. IsInBox p in
      subst P (own ∙ sym (late-at e craft late k x h)) (inside craft (k + 1) (omega (arith, long, is.there)) (omega arith) (omega (arith, h, is.run.cycles)))
