-- An aircraft flies to the z axis and past it, back, and there again.
use Rattle.std.proofs.Common.{◌≡◌, ℕ, zero, suc, ◌-◌, ◌*◌, ◌<◌, ◌≤◌, Bool, true, false, List, [], ◌∷◌, get_or, arith, refl, sym, ap, ◌∙◌, subst, inl, inr, mul-le-mul_left, cond}
use Rattle.std.specs.Prelude.{ℤ, pos, negsuc, neg_ℤ, ◌+ℤ◌, ◌*ℤ◌, filter, fold, nat_le, min, None}
use Rattle.std.proofs.lemmas.Bool.{cases_lt}
use Rattle.std.proofs.lemmas.Bool.Decides.{nat_tests}
use Rattle.std.proofs.lemmas.Int.{ints}
use Rattle.std.proofs.lemmas.List.Elements.{All-cons}
use Rattle.acas_base.specs.Ranges.{IsBetween, IsCycle, IsWithin}
use Rattle.acas_base.specs.Encounter.{AreRates}
use Rattle.acas_base.specs.declared.craft.Leg.{Leg}
use Rattle.enc_gen.proofs.Each.{all-one}
use Rattle.enc_gen.proofs.Legs.{backwards-rates, inwards-rates}
use Rattle.enc_gen.specs.Crafts.{IsDraft, backwards, inwards, legs_of, spec_of, speed}
use Rattle.enc_gen.specs.Near.{IsNear}
use Rattle.enc_gen.specs.declared.crafts.Draft.{Draft}
use Rattle.flight.proofs.Along.{along, still}
use Rattle.flight.specs.Bounds.{IsCourse, flown}
use Rattle.flight.specs.Flight.{carried, later, leg_in, place_in, rate_in, start_of}
use Rattle.flight.specs.declared.place.Place.{Place}

-- All three legs.
abbrev three : Draft → List Leg
three d = inwards d 1 ∷ backwards d 201 ∷ inwards d 401 ∷ []

three-course : (d : Draft) → IsDraft d → IsCourse (three d)
three-course d near = record {
  rising = rises;
  from = All-cons Begins (inwards d 1) (backwards d 201 ∷ inwards d 401 ∷ []) (omega arith, omega arith)
      (All-cons Begins (backwards d 201) (inwards d 401 ∷ []) (omega arith, omega arith) (all-one Begins (inwards d 401) (omega arith, omega arith)));
  rates = All-cons AreRates (inwards d 1) (backwards d 201 ∷ inwards d 401 ∷ []) (inwards-rates d 1 near)
      (All-cons AreRates (backwards d 201) (inwards d 401 ∷ []) (backwards-rates d 201 near) (all-one AreRates (inwards d 401) (inwards-rates d 401 near)));
} where
  Begins : Leg → Type 0
  Begins leg = IsCycle leg.from

  rises : (i j : ℕ) (e : Leg) → i < j → j < 3 → (get_or (three d) i e).from < (get_or (three d) j e).from
  rises i zero e h g = absurd (omega arith)
  rises zero (suc zero) e h g = omega arith
  rises (suc i) (suc zero) e h g = absurd (omega arith)
  rises zero (suc (suc zero)) e h g = omega arith
  rises (suc zero) (suc (suc zero)) e h g = omega arith
  rises (suc (suc i)) (suc (suc zero)) e h g = absurd (omega arith)
  rises i (suc (suc (suc j))) e h g = absurd (omega arith)

-- Some way between two ends.
between : (low high a v : ℤ) (n : ℕ) → n ≤ 200 → IsBetween low high a → IsBetween low high (a +ℤ (v *ℤ pos 200)) → IsBetween low high (a +ℤ (v *ℤ pos n))
between low high a (pos w) n order here there =
    let less : w * n ≤ w * 200 = mul-le-mul_left w order in
    (omega (arith, ints, less, here.0, here.1, there.0, there.1), omega (arith, ints, less, here.0, here.1, there.0, there.1))
between low high a (negsuc w) n order here there =
    let less : suc w * n ≤ suc w * 200 = mul-le-mul_left (suc w) order in
    (omega (arith, ints, less, here.0, here.1, there.0, there.1), omega (arith, ints, less, here.0, here.1, there.0, there.1))

-- There and back.
returned : (a v : ℤ) → (a +ℤ (v *ℤ pos 200)) +ℤ (neg_ℤ v *ℤ pos 200) ≡ a
returned a v = omega (arith, ints)

-- A coordinate in the three legs: out, back, and out again.
record Swings (low high a v : ℤ) : Type 0 where
  here : IsBetween low high a
  there : IsBetween low high (a +ℤ (v *ℤ pos 200))

swing-out : (low high a v : ℤ) (n : ℕ) → n ≤ 200 → Swings low high a v → IsBetween low high (a +ℤ (v *ℤ pos n))
swing-out low high a v n short ends = between low high a v n short ends.here ends.there

swing-back : (low high a v : ℤ) (n : ℕ) → n ≤ 200 → Swings low high a v → IsBetween low high ((a +ℤ (v *ℤ pos 200)) +ℤ (neg_ℤ v *ℤ pos n))
swing-back low high a v n short ends =
    let P : ℤ → Type 0 = λ x. IsBetween low high x in
    between low high (a +ℤ (v *ℤ pos 200)) (neg_ℤ v) n short ends.there (subst P (sym (returned a v)) ends.here)

swing-again : (low high a v : ℤ) (n : ℕ) → n ≤ 200 → Swings low high a v → IsBetween low high (((a +ℤ (v *ℤ pos 200)) +ℤ (neg_ℤ v *ℤ pos 200)) +ℤ (v *ℤ pos n))
swing-again low high a v n short ends =
    let P : ℤ → Type 0 = λ x. IsBetween low high (x +ℤ (v *ℤ pos n)) in
    subst P (sym (returned a v)) (swing-out low high a v n short ends)

swings-across : (x : ℤ) → IsWithin 60000 x → Swings (neg_ℤ (pos 60000)) (pos 60000) x (speed x)
swings-across (pos a) h = record { here = h; there = (omega (arith, ints, h.0, h.1), omega (arith, ints, h.0, h.1)) }
swings-across (negsuc a) h = record { here = h; there = (omega (arith, ints, h.0, h.1), omega (arith, ints, h.0, h.1)) }

swings-up : (alt climb : ℤ) → IsBetween (pos 5000) (pos 34900) alt → IsWithin 1000 climb → Swings (pos 96000) (pos 2298000) (pos 60 *ℤ alt) climb
swings-up alt climb h g = record {
  here = (omega (arith, ints, h.0, h.1), omega (arith, ints, h.0, h.1));
  there = (omega (arith, ints, h.0, h.1, g.0, g.1), omega (arith, ints, h.0, h.1, g.0, g.1));
}

-- The places at the start, and when the second and the third leg begin.
abbrev first-place : Draft → Place
first-place d = start_of (spec_of d)

abbrev second-place : Draft → Place
second-place d = flown (first-place d) (inwards d 1) 200

abbrev third-place : Draft → Place
third-place d = flown (second-place d) (backwards d 201) 200

near-out : (d : Draft) (n : ℕ) → IsDraft d → n ≤ 200 → IsNear 60000 (flown (first-place d) (inwards d 1) n)
near-out d n near short = record {
  x = swing-out _ _ d.x (speed d.x) n short (swings-across d.x near.x);
  y = swing-out _ _ d.y (speed d.y) n short (swings-across d.y near.y);
  z = swing-out _ _ (pos 60 *ℤ d.alt) d.climb n short (swings-up d.alt d.climb near.alt near.climb);
}

near-back : (d : Draft) (n : ℕ) → IsDraft d → n ≤ 200 → IsNear 60000 (flown (second-place d) (backwards d 201) n)
near-back d n near short = record {
  x = swing-back _ _ d.x (speed d.x) n short (swings-across d.x near.x);
  y = swing-back _ _ d.y (speed d.y) n short (swings-across d.y near.y);
  z = swing-back _ _ (pos 60 *ℤ d.alt) d.climb n short (swings-up d.alt d.climb near.alt near.climb);
}

near-again : (d : Draft) (n : ℕ) → IsDraft d → n ≤ 200 → IsNear 60000 (flown (third-place d) (inwards d 401) n)
near-again d n near short = record {
  x = swing-again _ _ d.x (speed d.x) n short (swings-across d.x near.x);
  y = swing-again _ _ d.y (speed d.y) n short (swings-across d.y near.y);
  z = swing-again _ _ (pos 60 *ℤ d.alt) d.climb n short (swings-up d.alt d.climb near.alt near.climb);
}

-- The place in a cycle of each leg, up to the cycle in which the next one begins.
place-out : (d : Draft) (k : ℕ) → IsDraft d → 1 ≤ k → k ≤ 201 → place_in (first-place d) (three d) k ≡ flown (first-place d) (inwards d 1) (k - 1)
place-out d k near some last =
    let course = three-course d near in
    let begun : min 1 k ≡ 1 = omega arith in
    let start : place_in (first-place d) (three d) 1 ≡ first-place d = still (first-place d) (three d) k 1 course (omega arith) (omega arith) in
    let way = along (first-place d) (three d) 0 k k (inwards d 1) course (omega arith) some (omega arith) (omega arith) in
    way ∙ ap (λ n. flown (place_in (first-place d) (three d) n) (inwards d 1) (k - n)) begun ∙ ap (λ p. flown p (inwards d 1) (k - 1)) start

place-back : (d : Draft) (k : ℕ) → IsDraft d → 201 ≤ k → k ≤ 401 → place_in (first-place d) (three d) k ≡ flown (second-place d) (backwards d 201) (k - 201)
place-back d k near some last =
    let course = three-course d near in
    let begun : min 201 k ≡ 201 = omega arith in
    let start : place_in (first-place d) (three d) 201 ≡ second-place d = place-out d 201 near (omega arith) (omega arith) in
    let way = along (first-place d) (three d) 1 k k (inwards d 1) course (omega arith) (omega arith) (omega arith) (omega arith) in
    way ∙ ap (λ n. flown (place_in (first-place d) (three d) n) (backwards d 201) (k - n)) begun ∙ ap (λ p. flown p (backwards d 201) (k - 201)) start

place-again : (d : Draft) (k : ℕ) → IsDraft d → 401 ≤ k → place_in (first-place d) (three d) k ≡ flown (third-place d) (inwards d 401) (k - 401)
place-again d k near some =
    let course = three-course d near in
    let begun : min 401 k ≡ 401 = omega arith in
    let start : place_in (first-place d) (three d) 401 ≡ third-place d = place-back d 401 near (omega arith) (omega arith) in
    let way = along (first-place d) (three d) 2 k k (inwards d 1) course (omega arith) (omega arith) (omega arith) (omega arith) in
    way ∙ ap (λ n. flown (place_in (first-place d) (three d) n) (inwards d 401) (k - n)) begun ∙ ap (λ p. flown p (inwards d 401) (k - 401)) start

near-three : (d : Draft) (k : ℕ) → IsDraft d → 1 ≤ k → k ≤ 600 → IsNear 60000 (place_in (first-place d) (three d) k)
near-three d k near some last = elim (cases_lt 201 k) [
  | inr h ↦ subst Near (sym (place-out d k near some h)) (near-out d (k - 1) near (omega arith))
  | inl h ↦ elim (cases_lt 401 k) [
    | inr g ↦ subst Near (sym (place-back d k near (omega arith) g)) (near-back d (k - 201) near (omega arith))
    | inl g ↦ subst Near (sym (place-again d k near (omega arith))) (near-again d (k - 401) near (omega arith))
  ]
] where
  Near : Place → Type 0
  Near p = IsNear 60000 p

-- Legs that begin after the run don't matter within it.
begun-both : (a b c : ℕ) → b ≤ c → (nat_le a c ≡ false) → nat_le a b ≡ false
begun-both a b c h off = grind (arith, nat_tests)

one-more : (test : Leg → Bool) (a b : Bool) (x : Leg) (xs ys : List Leg) → test x ≡ b → (a ≡ false → b ≡ false) → filter test xs ≡ ys → filter test (cond a (x ∷ xs) xs) ≡ cond b (x ∷ ys) ys
one-more test true b x xs ys is late rest = rw is (ap (λ l. cond b (x ∷ l) l) rest)
one-more test false true x xs ys is late rest = absurd (cc (late refl))
one-more test false false x xs ys is late rest = rest

filter-begun : (legs : List Leg) (k cycles : ℕ) → k ≤ cycles
    → filter (λ (leg : Leg). nat_le leg.from k) (filter (λ (leg : Leg). nat_le leg.from cycles) legs) ≡ filter (λ (leg : Leg). nat_le leg.from k) legs
filter-begun [] k cycles h = refl
filter-begun (x ∷ legs) k cycles h =
    let begun : Leg → Bool = λ leg. nat_le leg.from k in
    let within : Leg → Bool = λ leg. nat_le leg.from cycles in
    one-more begun (nat_le x.from cycles) (nat_le x.from k) x (filter within legs) (filter begun legs) refl (begun-both x.from k cycles h) (filter-begun legs k cycles h)

same-leg : (legs : List Leg) (k cycles : ℕ) → k ≤ cycles → leg_in (filter (λ (leg : Leg). nat_le leg.from cycles) legs) k ≡ leg_in legs k
unfolding leg_in
same-leg legs k cycles h = ap (λ l. fold later None l) (filter-begun legs k cycles h)

same-rate : (rate : Leg → ℤ) (legs : List Leg) (k cycles : ℕ) → k ≤ cycles → rate_in rate (filter (λ (leg : Leg). nat_le leg.from cycles) legs) k ≡ rate_in rate legs k
unfolding rate_in
same-rate rate legs k cycles h = rw (same-leg legs k cycles h) refl

same-way : (rate : Leg → ℤ) (legs : List Leg) (n cycles : ℕ) → n ≤ cycles → carried rate (filter (λ (leg : Leg). nat_le leg.from cycles) legs) n ≡ carried rate legs n
unfolding carried
same-way rate legs zero cycles h = refl
same-way rate legs (suc n) cycles h = rw (same-way rate legs n cycles (omega arith), same-rate rate legs (suc n) cycles h) refl

same-place : (start : Place) (legs : List Leg) (k cycles : ℕ) → k ≤ cycles → place_in start (filter (λ (leg : Leg). nat_le leg.from cycles) legs) k ≡ place_in start legs k
same-place start legs k cycles h =
    rw (same-way (λ (leg : Leg). leg.vx) legs (k - 1) cycles (omega arith), same-way (λ (leg : Leg). leg.vy) legs (k - 1) cycles (omega arith), same-way (λ (leg : Leg). leg.vz) legs (k - 1) cycles (omega arith)) refl

-- Within the run an aircraft stays near.
pub stays-near : (d : Draft) (k cycles : ℕ) → IsDraft d → 1 ≤ k → k ≤ cycles → cycles ≤ 600 → IsNear 60000 (place_in (start_of (spec_of d)) (legs_of cycles d) k)
unfolding legs_of
stays-near d k cycles near some last most =
    let Near : Place → Type 0 = λ p. IsNear 60000 p in
    subst Near (sym (same-place (first-place d) (three d) k cycles last)) (near-three d k near some (omega arith))
