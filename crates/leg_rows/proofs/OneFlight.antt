-- How the aircraft of an encounter fly determines its legs, where each is needed.
use Rattle.std.proofs.Common.{◌≡◌, ◌≢◌, ◌⊎◌, ℕ, suc, ◌+◌, ◌-◌, ◌<◌, ◌≤◌, ℤ, pos, ◌+ℤ◌, ◌*ℤ◌, true, List, [], ◌∷◌, length, get_or, drop, None, refl, sym, ap, ◌∙◌, arith, inl, inr}
use Rattle.std.specs.Prelude.{All, filter, ◌==◌}
use Rattle.std.proofs.lemmas.Bool.{cases_eq, cases_lt, eq-eqb, ne_eqb}
use Rattle.std.proofs.lemmas.Bool.Decides.{nat_tests}
use Rattle.std.proofs.lemmas.Int.{ints}
use Rattle.std.proofs.lemmas.List.{ext_get_or, get_or-map, get_or_default, length-map}
use Rattle.std.proofs.lemmas.List.FromFn.{get_or-map-range_with_len, length-map-range_with_len}
use Rattle.acas_base.specs.Encounter.{IsEncounter, Parts}
use Rattle.acas_base.specs.Order.{IsRising, is_below, leg_below}
use Rattle.acas_base.specs.declared.craft.CraftSpec.{CraftSpec}
use Rattle.acas_base.specs.declared.craft.Kind.TheVariants.{Ra}
use Rattle.acas_base.specs.declared.craft.Leg.{Leg}
use Rattle.flight.proofs.Placing.{position-of}
use Rattle.flight.specs.Flight.{carried, legs_of, nowhere, place_in, position, start_of}
use Rattle.flight.specs.declared.place.Place.{Place}
use Rattle.leg_rows.proofs.Through.{needed, only, through}
use Rattle.leg_rows.proofs.Together.{all-there, filter-nothing}
use Rattle.leg_rows.specs.Flights.{AreAlike, AreRows, FlyAlike, HasNeededLegs, legs_of_all, unplaced}
use Rattle.leg_rows.specs.Rows.{AreNeeded, at_rest, legs_through, place_of, places_of}

-- An aircraft where one is asked for that no fact speaks of.
abbrev pub any-craft : CraftSpec
any-craft = record { address = 0; kind = Ra; x = pos 0; y = pos 0; alt = pos 0; ceiling = None }

pub position-at : (e : Parts) (craft cycle : ℕ) → craft < length e.crafts → place_in (start_of (get_or e.crafts craft any-craft)) (legs_of e craft) cycle ≡ position e craft cycle
position-at e craft cycle within =
    let spec = get_or e.crafts craft any-craft in
    position-of e craft cycle spec within (get_or_default e.crafts craft any-craft spec within)

-- The legs through rows lead each aircraft through its row.
pub rows-flown : (e : Parts) (rows : List (List Place)) → AreRows e rows → e.legs ≡ legs_of_all rows
    → (craft cycle : ℕ) → craft < length e.crafts → 1 ≤ cycle → cycle ≤ e.cycles → position e craft cycle ≡ place_of (get_or rows craft []) cycle
rows-flown e rows are legs craft cycle within first last =
    let there : craft < length rows = omega (arith, are.count) in
    let row = get_or rows craft [] in
    let own : legs_of e craft ≡ legs_through craft row = ap (filter (λ (leg : Leg). leg.craft == craft)) legs ∙ all-there rows craft there in
    sym (position-at e craft cycle within)
    ∙ ap (λ s. place_in s (legs_of e craft) cycle) (are.start craft any-craft there)
    ∙ ap (λ l. place_in (place_of row 1) l cycle) own
    ∙ through craft row cycle first (omega (arith, are.long craft [] there))

pub rows-needed : (e : Parts) (rows : List (List Place)) → AreRows e rows → e.legs ≡ legs_of_all rows → HasNeededLegs e
rows-needed e rows are legs craft within =
    let there : craft < length rows = omega (arith, are.count) in
    let row = get_or rows craft [] in
    let own : legs_of e craft ≡ legs_through craft row = ap (filter (λ (leg : Leg). leg.craft == craft)) legs ∙ all-there rows craft there in
    rw (own, ← are.long craft [] there) (needed craft row)

carried-none : (rate : Leg → ℤ) (legs : List Leg) (a : ℤ) → a +ℤ carried rate legs 0 ≡ a
unfolding carried
carried-none rate legs a = omega (arith, ints)

pub same-place : (p q : Place) → p.x ≡ q.x → p.y ≡ q.y → p.z ≡ q.z → p ≡ q
same-place p q x y z = grind arith

begins-there : (start : Place) (legs : List Leg) → place_in start legs 1 ≡ start
begins-there start legs = same-place (place_in start legs 1) start (carried-none (λ (leg : Leg). leg.vx) legs start.x) (carried-none (λ (leg : Leg). leg.vy) legs start.y) (carried-none (λ (leg : Leg). leg.vz) legs start.z)

pub starts-at : (e : Parts) (craft : ℕ) → craft < length e.crafts → start_of (get_or e.crafts craft any-craft) ≡ position e craft 1
starts-at e craft within = sym (begins-there (start_of (get_or e.crafts craft any-craft)) (legs_of e craft)) ∙ position-at e craft 1 within

-- Legs that lead through the places of an aircraft, where each is needed, are the legs through these places.
pub legs-determined : (e : Parts) (craft : ℕ) (places : List Place) → craft < length e.crafts → 1 ≤ e.cycles → length places ≡ e.cycles
    → ((cycle : ℕ) → 1 ≤ cycle → cycle ≤ e.cycles → position e craft cycle ≡ place_of places cycle) → AreNeeded craft e.cycles at_rest 0 (legs_of e craft)
    → legs_of e craft ≡ legs_through craft places
legs-determined e craft places within some long at each =
    only craft places (legs_of e craft) (rw long each)
    (λ cycle first last.
    let there : cycle ≤ e.cycles = omega (arith, long) in
    ap (λ s. place_in s (legs_of e craft) cycle) (sym (at 1 (omega arith) some) ∙ sym (starts-at e craft within)) ∙ position-at e craft cycle within ∙ at cycle first there)

-- Legs by aircraft, from one on.
abbrev Sorted : ℕ → List Leg → Type 0
Sorted low [] = Unit {0}
Sorted low (leg ∷ legs) = (low ≤ leg.craft) × Sorted leg.craft legs

below-first : (a b c d : ℕ) → is_below (a, 0, b) (c, 0, d) ≡ true → a ≤ c
below-first a b c d h = grind (arith, nat_tests)

pub tail-rising : (x : Leg) (xs : List Leg) → IsRising leg_below (x ∷ xs) → IsRising leg_below xs
tail-rising x xs rising k d h = let next : suc k + 1 ≡ suc (k + 1) = omega arith in rw next at (rising (suc k) d (omega arith))

sorted-on : (x : Leg) (xs : List Leg) → IsRising leg_below (x ∷ xs) → Sorted x.craft xs
sorted-on x [] rising = tt
sorted-on x (y ∷ ys) rising = (below-first x.craft x.from y.craft y.from (rising 0 x (omega arith)), sorted-on y ys (tail-rising x (y ∷ ys) rising))

sorted : (xs : List Leg) → IsRising leg_below xs → Sorted 0 xs
sorted [] rising = tt
sorted (x ∷ xs) rising = (omega arith, sorted-on x xs rising)

abbrev of : ℕ → List Leg → List Leg
of n xs = filter (λ (leg : Leg). leg.craft == n) xs

none-of : (low n : ℕ) (xs : List Leg) → Sorted low xs → n < low → of n xs ≡ []
none-of low n [] is order = refl
none-of low n (x ∷ xs) is order = rw (ne_eqb x.craft n (λ e. omega (arith, e, is.0, order))) (none-of x.craft n xs is.1 (omega (arith, is.0, order)))

of-kept : (n : ℕ) (x : Leg) (xs : List Leg) → x.craft ≡ n → of n (x ∷ xs) ≡ x ∷ of n xs
of-kept n x xs same = rw (eq-eqb x.craft n same) refl

of-left : (n : ℕ) (x : Leg) (xs : List Leg) → x.craft ≢ n → of n (x ∷ xs) ≡ of n xs
of-left n x xs other = rw (ne_eqb x.craft n other) refl

never : (x : Leg) (xs : List Leg) → x ∷ xs ≡ [] → ⊥
never x xs e = let long = ap length e in omega (arith, long)

-- Lists of legs by aircraft are the same, where they are so for each aircraft.
same-by-craft : (a b : ℕ) (xs ys : List Leg) → Sorted a xs → Sorted b ys → ((n : ℕ) → of n xs ≡ of n ys) → xs ≡ ys
same-by-craft a b [] [] one two same = refl
same-by-craft a b [] (y ∷ ys) one two same = absurd (never y (of y.craft ys) (sym (of-kept y.craft y ys refl) ∙ sym (same y.craft)))
same-by-craft a b (x ∷ xs) [] one two same = absurd (never x (of x.craft xs) (sym (of-kept x.craft x xs refl) ∙ same x.craft))
same-by-craft a b (x ∷ xs) (y ∷ ys) one two same = elim (cases_lt x.craft y.craft) [
  | inl h ↦ absurd (never x (of x.craft xs) (sym (of-kept x.craft x xs refl) ∙ same x.craft ∙ none-of y.craft x.craft (y ∷ ys) (omega arith, two.1) h))
  | inr h ↦ elim (cases_lt y.craft x.craft) [
    | inl g ↦ absurd (never y (of y.craft ys) (sym (of-kept y.craft y ys refl) ∙ sym (same y.craft) ∙ none-of x.craft y.craft (x ∷ xs) (omega arith, one.1) g))
    | inr g ↦
        let crafts : x.craft ≡ y.craft = omega arith in
        let both : x ∷ of x.craft xs ≡ y ∷ of x.craft ys = sym (of-kept x.craft x xs refl) ∙ same x.craft ∙ of-kept x.craft y ys (sym crafts) in
        let rest = same-by-craft x.craft y.craft xs ys one.1 two.1 (λ n. elim (cases n x.craft) [
          | inl e ↦ rw e (ap (drop 1) both)
          | inr e ↦ sym (of-left n x xs (λ i. e (sym i))) ∙ same n ∙ of-left n y ys (λ i. e (sym (crafts ∙ i)))
        ]) in
        ap (λ l. l ∷ xs) (ap (λ l. get_or l 0 x) both) ∙ ap (λ l. y ∷ l) rest
  ]
] where
  cases : (n m : ℕ) → (n ≡ m) ⊎ (n ≢ m)
  cases n m = cases_eq n m

-- Legs in their order are the same, where they are so for each aircraft.
pub same-legs : (xs ys : List Leg) → IsRising leg_below xs → IsRising leg_below ys → ((n : ℕ) → filter (λ (leg : Leg). leg.craft == n) xs ≡ filter (λ (leg : Leg). leg.craft == n) ys) → xs ≡ ys
same-legs xs ys one two each = same-by-craft 0 0 xs ys (sorted xs one) (sorted ys two) each

-- An aircraft is known by what it is and where it begins.
same-craft : (a b : CraftSpec) → unplaced a ≡ unplaced b → start_of a ≡ start_of b → a ≡ b
same-craft a b kind start =
    let address = ap (λ (c : CraftSpec). c.address) kind in
    let carries = ap (λ (c : CraftSpec). c.kind) kind in
    let ceiling = ap (λ (c : CraftSpec). c.ceiling) kind in
    let x = ap (λ (p : Place). p.x) start in
    let y = ap (λ (p : Place). p.y) start in
    let alt = sixty a.alt b.alt (ap (λ (p : Place). p.z) start) in
    grind (arith, address, carries, ceiling, x, y, alt)
  where
    sixty : (m n : ℤ) → pos 60 *ℤ m ≡ pos 60 *ℤ n → m ≡ n
    sixty m n e = omega (arith, ints, e)

same-crafts : (d e : Parts) → 1 ≤ e.cycles → AreAlike d e → FlyAlike d e → d.crafts ≡ e.crafts
same-crafts d e some alike fly =
    ext_get_or any-craft d.crafts e.crafts count
    (λ i within. same-craft (get_or d.crafts i any-craft) (get_or e.crafts i any-craft)
    (sym (get_or-map unplaced d.crafts i any-craft any-craft within) ∙ ap (λ l. get_or l i any-craft) alike.crafts ∙ get_or-map unplaced e.crafts i any-craft any-craft (omega (arith, count, within)))
    (starts-at d i within ∙ fly i 1 (omega (arith, count, within)) (omega arith) some ∙ sym (starts-at e i (omega (arith, count, within)))))
  where
    count : length d.crafts ≡ length e.crafts
    count = sym (length-map d.crafts unplaced) ∙ ap length alike.crafts ∙ length-map e.crafts unplaced

-- The places that an aircraft comes through.
pub places-at : (e : Parts) (craft cycle : ℕ) → 1 ≤ cycle → cycle ≤ e.cycles → position e craft cycle ≡ place_of (places_of e craft) cycle
unfolding places_of
places-at e craft cycle first last = sym (get_or-map-range_with_len (position e craft) 1 e.cycles (cycle - 1) cycle nowhere (omega arith) (omega arith))

pub places-long : (e : Parts) (craft : ℕ) → length (places_of e craft) ≡ e.cycles
unfolding places_of
places-long e craft = length-map-range_with_len (position e craft) 1 e.cycles

same-legs-of : (d e : Parts) (count : ℕ) → length d.crafts ≡ count → length e.crafts ≡ count → 1 ≤ e.cycles → d.cycles ≡ e.cycles → HasNeededLegs d → HasNeededLegs e → FlyAlike d e
    → (craft : ℕ) → craft < count → legs_of d craft ≡ legs_of e craft
same-legs-of d e count one two some cycles first second fly craft within =
    let places = places_of e craft in
    legs-determined d craft places (omega (arith, one, within)) (omega (arith, some, cycles)) (places-long e craft ∙ sym cycles)
    (λ cycle low high. fly craft cycle (omega (arith, two, within)) low (omega (arith, high, cycles)) ∙ places-at e craft cycle low (omega (arith, high, cycles)))
    (first craft (omega (arith, one, within)))
    ∙ sym (legs-determined e craft places (omega (arith, two, within)) some (places-long e craft) (places-at e craft) (second craft (omega (arith, two, within))))

same-parts : (d e : Parts) → AreAlike d e → d.crafts ≡ e.crafts → d.legs ≡ e.legs → d ≡ e
same-parts d e alike crafts legs =
    grind (arith, alike.version, alike.profile, alike.cycles, alike.terrain, alike.range, alike.altitude, alike.name, alike.clock, alike.calls, crafts, legs, alike.misses, alike.plans, alike.fates)

-- Encounters that differ in nothing but how their aircraft fly are the same, where these fly alike and each leg is
-- needed.
pub one-flight : (d e : Parts) → IsEncounter d → IsEncounter e → AreAlike d e → HasNeededLegs d → HasNeededLegs e → FlyAlike d e → d ≡ e
one-flight d e one two alike first second fly =
    same-parts d e alike crafts (same-legs d.legs e.legs one.records.legs.1 two.records.legs.1 each)
  where
    some : 1 ≤ e.cycles
    some = two.run.length.0

    crafts : d.crafts ≡ e.crafts
    crafts = same-crafts d e some alike fly

    none : (legs : List Leg) (n count : ℕ) → count ≤ n → All (λ (leg : Leg). leg.craft < count) legs → of n legs ≡ []
    none legs n count past all = filter-nothing (λ (leg : Leg). leg.craft == n) legs (λ k d h. ne_eqb (get_or legs k d).craft n (λ e. omega (arith, e, past, all k d h)))

    each : (n : ℕ) → of n d.legs ≡ of n e.legs
    each n = elim (cases_lt n (length e.crafts)) [
      | inl h ↦ same-legs-of d e (length e.crafts) (ap length crafts) refl some alike.cycles first second fly n h
      | inr h ↦
          none d.legs n (length e.crafts) h (λ k l g. let here = (one.records.legs.0 k l g).craft in omega (arith, here, ap length crafts))
          ∙ sym (none e.legs n (length e.crafts) h (λ k l g. (two.records.legs.0 k l g).craft))
    ]
