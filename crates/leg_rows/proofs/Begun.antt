-- An encounter whose aircraft fly through given rows.
use Rattle.std.proofs.Common.{◌≡◌, ℕ, zero, suc, ◌<◌, ◌≤◌, ℤ, pos, neg_ℤ, ◌*ℤ◌, List, [], ◌∷◌, ◌++◌, length, get_or, refl, sym, ap, ◌∙◌, arith, subst}
use Rattle.std.specs.Prelude.{All, ◌||◌, map, unsigned_abs, ◌≤ℤ◌}
use Rattle.std.specs.Int.{int_div_euclid}
use Rattle.std.specs.List.{list_any}
use Rattle.std.proofs.lemmas.Int.{ints}
use Rattle.std.proofs.lemmas.List.{get_or-map, length-map}
use Rattle.acas_base.specs.Encounter.{AreCrafts, IsCraft, IsEncounter, IsPlain, Parts, encounter_of, is_active, setting_of}
use Rattle.acas_base.specs.Ranges.{IsWithin}
use Rattle.acas_base.specs.declared.craft.CraftSpec.{CraftSpec}
use Rattle.acas_base.specs.declared.craft.Leg.{Leg}
use Rattle.acas_base.specs.declared.craft.Miss.{Miss}
use Rattle.acas_base.specs.declared.label.Call.{Call}
use Rattle.acas_base.specs.declared.link.Fate.{Fate}
use Rattle.acas_base.specs.declared.link.LinkPlan.{LinkPlan}
use Rattle.acas_base.specs.declared.setting.Setting.{Setting}
use Rattle.flight.specs.Bounds.{IsReachable}
use Rattle.flight.specs.Flight.{start_of}
use Rattle.flight.specs.Inside.{IsInBox}
use Rattle.flight.specs.declared.place.Place.{Place}
use Rattle.leg_rows.proofs.OneFlight.{rows-flown, rows-needed, same-place}
use Rattle.leg_rows.proofs.Together.{all-listed}
use Rattle.leg_rows.specs.Flights.{AreRows, CanFly, FliesThrough, IsWholeFoot, at_place, crafts_at, flown_by, legs_of_all, unplaced}
use Rattle.leg_rows.specs.Rows.{place_of}

pub crafts-more : (xs : List CraftSpec) (rows : List (List Place)) (x : CraftSpec) (places : List Place) → length xs ≡ length rows
    → crafts_at (xs ++ x ∷ []) (rows ++ places ∷ []) ≡ crafts_at xs rows ++ at_place x (place_of places 1) ∷ []
crafts-more [] [] x places same = refl
crafts-more [] (row ∷ rows) x places same = absurd (omega (arith, same))
crafts-more (y ∷ ys) [] x places same = absurd (omega (arith, same))
crafts-more (y ∷ ys) (row ∷ rows) x places same = ap (λ l. at_place y (place_of row 1) ∷ l) (crafts-more ys rows x places (omega (arith, same)))

crafts-long : (xs : List CraftSpec) (rows : List (List Place)) → length xs ≡ length rows → length (crafts_at xs rows) ≡ length xs
crafts-long [] rows same = refl
crafts-long (x ∷ xs) [] same = absurd (omega (arith, same))
crafts-long (x ∷ xs) (row ∷ rows) same = ap suc (crafts-long xs rows (omega (arith, same)))

craft-at : (xs : List CraftSpec) (rows : List (List Place)) (i : ℕ) (d : CraftSpec) → length xs ≡ length rows → i < length xs
    → get_or (crafts_at xs rows) i d ≡ at_place (get_or xs i d) (place_of (get_or rows i []) 1)
craft-at [] rows i d same within = absurd (omega arith)
craft-at (x ∷ xs) [] i d same within = absurd (omega (arith, same))
craft-at (x ∷ xs) (row ∷ rows) zero d same within = refl
craft-at (x ∷ xs) (row ∷ rows) (suc i) d same within = craft-at xs rows i d (omega (arith, same)) (omega arith)

kinds-kept : (xs : List CraftSpec) (rows : List (List Place)) → length xs ≡ length rows → map unplaced (crafts_at xs rows) ≡ map unplaced xs
kinds-kept [] rows same = refl
kinds-kept (x ∷ xs) [] same = absurd (omega (arith, same))
kinds-kept (x ∷ xs) (row ∷ rows) same = ap (λ l. unplaced x ∷ l) (kinds-kept xs rows (omega (arith, same)))

active-kept : (xs : List CraftSpec) (rows : List (List Place)) → length xs ≡ length rows → list_any is_active (crafts_at xs rows) ≡ list_any is_active xs
active-kept [] rows same = refl
active-kept (x ∷ xs) [] same = absurd (omega (arith, same))
active-kept (x ∷ xs) (row ∷ rows) same = ap (λ b. is_active x || b) (active-kept xs rows (omega (arith, same)))

whole-altitude : (z q : ℤ) → pos 60 *ℤ q ≡ z → neg_ℤ (pos 60000) ≤ℤ z → z ≤ℤ pos 3600000 → (neg_ℤ (pos 1000) ≤ℤ q) × (q ≤ℤ pos 60000)
whole-altitude z q whole low high = (omega (arith, ints, whole, low), omega (arith, ints, whole, high))

placed-craft : (craft : CraftSpec) (place : Place) → IsCraft craft → IsInBox place → IsWholeFoot place → IsCraft (at_place craft place)
placed-craft craft place is box whole = record {
  address = is.address;
  x = box.x;
  y = box.y;
  alt = whole-altitude place.z (int_div_euclid place.z (pos 60)) whole box.z.0 box.z.1;
  ceiling = is.ceiling;
}

-- The first place of each row.
first-in : (e : Parts) (rows : List (List Place)) (i : ℕ) → 1 ≤ e.cycles → CanFly e rows → i < length rows → IsInBox (place_of (get_or rows i []) 1)
first-in e rows i some can within = can.boxed i [] within 0 _ (omega (arith, some, can.long i [] within))

begun-there : (craft : CraftSpec) (place : Place) → IsWholeFoot place → start_of (at_place craft place) ≡ place
begun-there craft place whole = same-place (start_of (at_place craft place)) place refl refl whole

crafts-are : (e : Parts) (rows : List (List Place)) → IsEncounter e → CanFly e rows → AreCrafts e.version (crafts_at e.crafts rows)
crafts-are e rows is can = record {
  some = omega (arith, long, is.crafts.some);
  few = omega (arith, long, is.crafts.few);
  ranges = λ i d h.
      let within : i < length e.crafts = omega (arith, long, h) in
      subst IsCraft (sym (craft-at e.crafts rows i d (sym can.count) within))
      (placed-craft (get_or e.crafts i d) (place_of (get_or rows i []) 1) (is.crafts.ranges i d within)
      (first-in e rows i is.run.length.0 can (omega (arith, can.count, within))) (can.feet i [] (omega (arith, can.count, within))));
  addresses = λ i j d order h.
      let within : j < length e.crafts = omega (arith, long, h) in
      λ same. is.crafts.addresses i j d order within
      (sym (ap (λ (c : CraftSpec). c.address) (craft-at e.crafts rows i d (sym can.count) (omega (arith, order, within)))) ∙ same ∙ ap (λ (c : CraftSpec). c.address) (craft-at e.crafts rows j d (sym can.count) within));
  active = active-kept e.crafts rows (sym can.count) ∙ is.crafts.active;
} where
  long : length (crafts_at e.crafts rows) ≡ length e.crafts
  long = crafts-long e.crafts rows (sym can.count)

plain-kept : (e : Parts) (rows : List (List Place)) → CanFly e rows → IsPlain e.crafts e.plans → IsPlain (crafts_at e.crafts rows) e.plans
plain-kept e rows can plain = record {
  no_ceiling = λ i d h.
      let within : i < length e.crafts = omega (arith, crafts-long e.crafts rows (sym can.count), h) in
      ap (λ (c : CraftSpec). c.ceiling) (craft-at e.crafts rows i d (sym can.count) within) ∙ plain.no_ceiling i d within;
  no_plan = plain.no_plan;
}

pub flown-encounter : (e : Parts) (rows : List (List Place)) → IsEncounter e → CanFly e rows → IsEncounter (flown_by e rows)
flown-encounter e rows is can = record {
  run = is.run;
  range = is.range;
  altitude = is.altitude;
  crafts = crafts-are e rows is can;
  format = λ first. plain-kept e rows can (is.format first);
  older = λ early. let h = is.older early in record { profile = h.profile; name = h.name; clock = h.clock; calls = h.calls };
  labels = rw long is.labels;
  records = record {
    legs = rw (long, ← can.count) (all-listed rows (λ i d h. omega (arith, can.long i d h, is.run.length.1)) can.flyable);
    misses = rw long is.records.misses;
    plans = rw long is.records.plans;
    fates = rw long is.records.fates;
  };
} where
  long : length (crafts_at e.crafts rows) ≡ length e.crafts
  long = crafts-long e.crafts rows (sym can.count)

flown-rows : (e : Parts) (rows : List (List Place)) → CanFly e rows → AreRows (flown_by e rows) rows
flown-rows e rows can = record {
  count = can.count ∙ sym (crafts-long e.crafts rows (sym can.count));
  long = can.long;
  start = λ i d h.
      ap start_of (craft-at e.crafts rows i d (sym can.count) (omega (arith, can.count, h)))
      ∙ begun-there (get_or e.crafts i d) (place_of (get_or rows i []) 1) (can.feet i [] h);
}

pub flown-through : (e : Parts) (rows : List (List Place)) → CanFly e rows → FliesThrough (flown_by e rows) e rows
flown-through e rows can = record {
  alike = record {
    version = refl;
    profile = refl;
    cycles = refl;
    terrain = refl;
    range = refl;
    altitude = refl;
    name = refl;
    clock = refl;
    calls = refl;
    crafts = kinds-kept e.crafts rows (sym can.count);
    misses = refl;
    plans = refl;
    fates = refl;
  };
  needed = rows-needed (flown_by e rows) rows (flown-rows e rows can) refl;
  place = λ craft cycle within first last.
      rows-flown (flown_by e rows) rows (flown-rows e rows can) refl craft cycle (omega (arith, crafts-long e.crafts rows (sym can.count), within)) first last;
}

-- What holds of all that is made of the elements of a list.
pub all-back : {X Y : Type 0} (P : Y → Type 0) (f : X → Y) (xs : List X) → All P (map f xs) → All (λ x. P (f x)) xs
all-back P f xs all k d h = subst P (get_or-map f xs k d (f d) h) (all k (f d) (omega (arith, h, length-map xs f)))

pub box-near : (p : Place) → IsInBox p → IsReachable p
box-near p box = record {
  x = within-abs 1000000 p.x 2198000 (omega arith) box.x;
  y = within-abs 1000000 p.y 2198000 (omega arith) box.y;
  z = altitude-abs p.z box.z.0 box.z.1;
} where
  within-abs : (size : ℕ) (a : ℤ) (most : ℕ) → size ≤ most → IsWithin size a → unsigned_abs a ≤ most
  within-abs size a most small h = omega (arith, ints, h.0, h.1, small)

  altitude-abs : (z : ℤ) → neg_ℤ (pos 60000) ≤ℤ z → z ≤ℤ pos 3600000 → unsigned_abs z ≤ 9590000
  altitude-abs z low high = omega (arith, ints, low, high)

-- The parts of which the encounter is made.
pub parts-are : (e : Parts) (rows : List (List Place)) (setting : Setting) (calls : List Call) (crafts : List CraftSpec) (legs : List Leg)
    (misses : List Miss) (plans : List LinkPlan) (fates : List Fate)
    → setting ≡ setting_of e → calls ≡ e.calls → crafts ≡ crafts_at e.crafts rows → legs ≡ legs_of_all rows → misses ≡ e.misses → plans ≡ e.plans → fates ≡ e.fates
    → encounter_of setting calls crafts legs misses plans fates ≡ flown_by e rows
parts-are e rows setting calls crafts legs misses plans fates a b c d f g h = rw (a, b, c, d, f, g, h) refl
