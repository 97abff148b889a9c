-- Legs lead through places exactly where they give the rates from each place to the next.
use Rattle.std.proofs.Common.{◌≡◌, ℕ, zero, suc, ◌-◌, ◌<◌, ◌≤◌, ℤ, pos, ◌+ℤ◌, ◌-ℤ◌, List, [], ◌∷◌, length, get_or, Option, Some, None, refl, sym, ap, ◌∙◌, arith}
use Rattle.std.specs.Option.{option_map_or}
use Rattle.std.proofs.lemmas.Int.{ints}
use Rattle.acas_base.specs.declared.craft.Leg.{Leg}
use Rattle.flight.specs.Flight.{carried, leg_in, nowhere, place_in, rate_in}
use Rattle.flight.specs.declared.place.Place.{Place}
use Rattle.leg_rows.proofs.Needed.{Follow, force-of, legs-follow, rates_or, same-legs}
use Rattle.leg_rows.specs.Rows.{AreNeeded, PassThrough, at_rest, legs_through, place_of, rates_from}
use Rattle.leg_rows.specs.declared.rates.Rates.{Rates}

-- One coordinate, where each rate is the difference of two neighbours.
summed : (at : ℕ → ℤ) (rate : Leg → ℤ) (legs : List Leg) (last n : ℕ) → n ≤ last → ((k : ℕ) → k < last → rate_in rate legs (suc k) ≡ at (suc k) -ℤ at k)
    → at 0 +ℤ carried rate legs n ≡ at n
unfolding carried
summed at rate legs last zero within each = omega (arith, ints)
summed at rate legs last (suc n) within each =
    let earlier = summed at rate legs last n (omega arith) each in
    let here = each n (omega arith) in
    omega (arith, ints, earlier, here)

-- And back.
apart : (at : ℕ → ℤ) (rate : Leg → ℤ) (legs : List Leg) (k : ℕ) → at 0 +ℤ carried rate legs k ≡ at k → at 0 +ℤ carried rate legs (suc k) ≡ at (suc k)
    → rate_in rate legs (suc k) ≡ at (suc k) -ℤ at k
unfolding carried
apart at rate legs k one two = omega (arith, ints, one, two)

rate-x : (legs : List Leg) (cycle : ℕ) → rate_in (λ (leg : Leg). leg.vx) legs cycle ≡ (rates_or (leg_in legs cycle)).vx
unfolding rate_in
rate-x legs cycle = by (leg_in legs cycle) where
  by : (o : Option Leg) → option_map_or (λ (leg : Leg). leg.vx) o (pos 0) ≡ (rates_or o).vx
  by None = refl
  by (Some leg) = refl

rate-y : (legs : List Leg) (cycle : ℕ) → rate_in (λ (leg : Leg). leg.vy) legs cycle ≡ (rates_or (leg_in legs cycle)).vy
unfolding rate_in
rate-y legs cycle = by (leg_in legs cycle) where
  by : (o : Option Leg) → option_map_or (λ (leg : Leg). leg.vy) o (pos 0) ≡ (rates_or o).vy
  by None = refl
  by (Some leg) = refl

rate-z : (legs : List Leg) (cycle : ℕ) → rate_in (λ (leg : Leg). leg.vz) legs cycle ≡ (rates_or (leg_in legs cycle)).vz
unfolding rate_in
rate-z legs cycle = by (leg_in legs cycle) where
  by : (o : Option Leg) → option_map_or (λ (leg : Leg). leg.vz) o (pos 0) ≡ (rates_or o).vz
  by None = refl
  by (Some leg) = refl

same-place : (p q : Place) → p.x ≡ q.x → p.y ≡ q.y → p.z ≡ q.z → p ≡ q
same-place p q x y z = grind arith

same-rates : (a b : Rates) → a.vx ≡ b.vx → a.vy ≡ b.vy → a.vz ≡ b.vz → a ≡ b
same-rates a b x y z = grind arith

-- Legs that give the rates from each place to the next lead through the places.
pub pass-by-rates : (places : List Place) (legs : List Leg) → ((k : ℕ) → suc k < length places → rates_or (leg_in legs (suc k)) ≡ rates_from places (suc k)) → PassThrough places legs
pass-by-rates places legs each cycle first within =
    same-place (place_in (place_of places 1) legs cycle) (place_of places cycle)
    (summed (λ n. (get_or places n nowhere).x) (λ (leg : Leg). leg.vx) legs (length places - 1) (cycle - 1) (omega arith) (λ k h. rate-x legs (suc k) ∙ ap (λ (r : Rates). r.vx) (each k (omega arith))))
    (summed (λ n. (get_or places n nowhere).y) (λ (leg : Leg). leg.vy) legs (length places - 1) (cycle - 1) (omega arith) (λ k h. rate-y legs (suc k) ∙ ap (λ (r : Rates). r.vy) (each k (omega arith))))
    (summed (λ n. (get_or places n nowhere).z) (λ (leg : Leg). leg.vz) legs (length places - 1) (cycle - 1) (omega arith) (λ k h. rate-z legs (suc k) ∙ ap (λ (r : Rates). r.vz) (each k (omega arith))))

-- Legs that lead through places give the rates from each place to the next.
pub rates-by-pass : (places : List Place) (legs : List Leg) → PassThrough places legs → (k : ℕ) → suc k < length places → rates_or (leg_in legs (suc k)) ≡ rates_from places (suc k)
rates-by-pass places legs pass k within =
    let here : place_in (place_of places 1) legs (suc k) ≡ get_or places k nowhere = pass (suc k) (omega arith) (omega arith) ∙ ap (λ n. get_or places n nowhere) (back k) in
    let next : place_in (place_of places 1) legs (suc (suc k)) ≡ get_or places (suc k) nowhere = pass (suc (suc k)) (omega arith) (omega arith) ∙ ap (λ n. get_or places n nowhere) (back (suc k)) in
    same-rates (rates_or (leg_in legs (suc k))) (rates_from places (suc k))
    (sym (rate-x legs (suc k)) ∙ apart (λ n. (get_or places n nowhere).x) (λ (leg : Leg). leg.vx) legs k (at-x k here) (at-x (suc k) next))
    (sym (rate-y legs (suc k)) ∙ apart (λ n. (get_or places n nowhere).y) (λ (leg : Leg). leg.vy) legs k (at-y k here) (at-y (suc k) next))
    (sym (rate-z legs (suc k)) ∙ apart (λ n. (get_or places n nowhere).z) (λ (leg : Leg). leg.vz) legs k (at-z k here) (at-z (suc k) next))
  where
    back : (n : ℕ) → suc n - 1 ≡ n
    back n = omega arith

    at-x : (n : ℕ) → place_in (place_of places 1) legs (suc n) ≡ get_or places n nowhere → (get_or places 0 nowhere).x +ℤ carried (λ (leg : Leg). leg.vx) legs n ≡ (get_or places n nowhere).x
    at-x n is = ap (λ m. (get_or places 0 nowhere).x +ℤ carried (λ (leg : Leg). leg.vx) legs m) (sym (back n)) ∙ ap (λ (p : Place). p.x) is

    at-y : (n : ℕ) → place_in (place_of places 1) legs (suc n) ≡ get_or places n nowhere → (get_or places 0 nowhere).y +ℤ carried (λ (leg : Leg). leg.vy) legs n ≡ (get_or places n nowhere).y
    at-y n is = ap (λ m. (get_or places 0 nowhere).y +ℤ carried (λ (leg : Leg). leg.vy) legs m) (sym (back n)) ∙ ap (λ (p : Place). p.y) is

    at-z : (n : ℕ) → place_in (place_of places 1) legs (suc n) ≡ get_or places n nowhere → (get_or places 0 nowhere).z +ℤ carried (λ (leg : Leg). leg.vz) legs n ≡ (get_or places n nowhere).z
    at-z n is = ap (λ m. (get_or places 0 nowhere).z +ℤ carried (λ (leg : Leg). leg.vz) legs m) (sym (back n)) ∙ ap (λ (p : Place). p.z) is

-- The legs through places follow the rates from each place to the next, where there is a place.
through-follow : (craft : ℕ) (places : List Place) → 1 ≤ length places → Follow craft (length places) (rates_from places) 0 (legs_through craft places)
unfolding legs_through
through-follow craft places some = legs-follow craft (length places) (rates_from places) 0 (length places - 1) (omega arith)

pub needed : (craft : ℕ) (places : List Place) → AreNeeded craft (length places) at_rest 0 (legs_through craft places)
unfolding legs_through
needed craft [] = tt
needed craft (p ∷ places) = (through-follow craft (p ∷ places) (omega arith)).needed

pub through : (craft : ℕ) (places : List Place) → PassThrough places (legs_through craft places)
through craft places =
    pass-by-rates places (legs_through craft places)
    (λ k within. force-of craft (length places) (suc k) (legs_through craft places) (needed craft places) ∙ (through-follow craft places (omega arith)).force (suc k) (omega arith) within)

pub only : (craft : ℕ) (places : List Place) (legs : List Leg) → AreNeeded craft (length places) at_rest 0 legs → PassThrough places legs → legs ≡ legs_through craft places
only craft places legs each pass =
    same-legs craft (length places) at_rest 0 legs (legs_through craft places) each (needed craft places)
    (λ c late early. sym (force-of craft (length places) c legs each) ∙ rates c late early ∙ sym ((through-follow craft places (omega arith)).force c late early))
  where
    rates : (c : ℕ) → 0 < c → c < length places → rates_or (leg_in legs c) ≡ rates_from places c
    rates zero late early = absurd (omega arith)
    rates (suc k) late early = rates-by-pass places legs pass k early
