-- The legs of the aircraft.
use Rattle.std.proofs.Common.{◌≡◌, ℕ, zero, suc, ◌+◌, ◌<◌, Bool, true, false, List, [], ◌∷◌, length, get_or, arith, refl, ap, ◌∙◌, ◌≢◌}
use Rattle.std.specs.Prelude.{All, AllPairs, ◌==◌, filter, nat_le, ℤ, pos, negsuc, neg_ℤ}
use Rattle.std.specs.List.{flat_map}
use Rattle.std.proofs.lemmas.Bool.Decides.{nat_tests}
use Rattle.std.proofs.lemmas.Int.{ints}
use Rattle.std.proofs.lemmas.List.{append-nil}
use Rattle.std.proofs.lemmas.List.Elements.{All-cons, All-filter, filter-append}
use Rattle.std.proofs.lemmas.List.Kept.{AllPairs-cons, AllPairs-filter}
use Rattle.acas_base.specs.Encounter.{AreListed, AreRates, IsLeg}
use Rattle.acas_base.specs.Order.{is_below, leg_below}
use Rattle.acas_base.specs.Ranges.{IsWithin}
use Rattle.acas_base.specs.declared.craft.Leg.{Leg}
use Rattle.enc_gen.proofs.Each.{all-flat, all-one, pairs-flat, pairs-one, rising-pairs}
use Rattle.enc_gen.specs.Crafts.{IsDraft, backwards, inwards, legs_of, speed}
use Rattle.enc_gen.specs.declared.crafts.Draft.{Draft}

pub speed-small : (x : ℤ) → IsWithin 60000 x → IsWithin 2000 (speed x)
speed-small (pos a) h = (omega (arith, ints, h.0, h.1), omega (arith, ints, h.0, h.1))
speed-small (negsuc a) h = (omega (arith, ints, h.0, h.1), omega (arith, ints, h.0, h.1))

opposite-small : (n : ℕ) (x : ℤ) → IsWithin n x → IsWithin n (neg_ℤ x)
opposite-small n x h = (omega (arith, ints, h.0, h.1), omega (arith, ints, h.0, h.1))

climb-small : (x : ℤ) → IsWithin 1000 x → IsWithin 10000 x
climb-small x h = (omega (arith, ints, h.0, h.1), omega (arith, ints, h.0, h.1))

pub inwards-rates : (d : Draft) (from : ℕ) → IsDraft d → AreRates (inwards d from)
inwards-rates d from near = record { vx = speed-small d.x near.x; vy = speed-small d.y near.y; vz = climb-small d.climb near.climb }

pub backwards-rates : (d : Draft) (from : ℕ) → IsDraft d → AreRates (backwards d from)
backwards-rates d from near = record {
  vx = opposite-small 2000 (speed d.x) (speed-small d.x near.x);
  vy = opposite-small 2000 (speed d.y) (speed-small d.y near.y);
  vz = opposite-small 10000 d.climb (climb-small d.climb near.climb);
}

-- What is true of the three is true of those within the run.
three-all : (P : Leg → Type 0) (cycles : ℕ) (d : Draft) → P (inwards d 1) → P (backwards d 201) → P (inwards d 401) → All P (legs_of cycles d)
unfolding legs_of
three-all P cycles d one two three =
    All-filter (λ (leg : Leg). nat_le leg.from cycles) P (inwards d 1 ∷ backwards d 201 ∷ inwards d 401 ∷ [])
    (All-cons P (inwards d 1) (backwards d 201 ∷ inwards d 401 ∷ []) one (All-cons P (backwards d 201) (inwards d 401 ∷ []) two (all-one P (inwards d 401) three)))

three-pairs : (R : Leg → Leg → Type 0) (cycles : ℕ) (d : Draft) → R (inwards d 1) (backwards d 201) → R (inwards d 1) (inwards d 401) → R (backwards d 201) (inwards d 401) → AllPairs R (legs_of cycles d)
unfolding legs_of
three-pairs R cycles d one two three =
    AllPairs-filter R (λ (leg : Leg). nat_le leg.from cycles) (inwards d 1 ∷ backwards d 201 ∷ inwards d 401 ∷ [])
    (AllPairs-cons R (inwards d 1) (backwards d 201 ∷ inwards d 401 ∷ []) (All-cons (R (inwards d 1)) (backwards d 201) (inwards d 401 ∷ []) one (all-one (R (inwards d 1)) (inwards d 401) two))
    (AllPairs-cons R (backwards d 201) (inwards d 401 ∷ []) (all-one (R (backwards d 201)) (inwards d 401) three) (pairs-one R (inwards d 401))))

legs-fit : (count cycles : ℕ) (d : Draft) → IsDraft d → d.craft < count → All (IsLeg count) (legs_of cycles d)
legs-fit count cycles d near few =
    three-all (IsLeg count) cycles d
    (record { craft = few; from = (omega arith, omega arith); rates = inwards-rates d 1 near })
    (record { craft = few; from = (omega arith, omega arith); rates = backwards-rates d 201 near })
    (record { craft = few; from = (omega arith, omega arith); rates = inwards-rates d 401 near })

legs-own : (cycles : ℕ) (d : Draft) → All (λ (leg : Leg). leg.craft ≡ d.craft) (legs_of cycles d)
legs-own cycles d = three-all (λ (leg : Leg). leg.craft ≡ d.craft) cycles d refl refl refl

later-leg : (craft a b : ℕ) → a < b → is_below (craft, 0, a) (craft, 0, b) ≡ true
later-leg craft a b h = grind (arith, nat_tests)

pub later-pair : (a b c d e f : ℕ) → a < d → is_below (a, b, c) (d, e, f) ≡ true
later-pair a b c d e f h = grind (arith, nat_tests)

abbrev AreBelow : Leg → Leg → Type 0
AreBelow a b = leg_below a b ≡ true

legs-pairs : (cycles : ℕ) (d : Draft) → AllPairs AreBelow (legs_of cycles d)
legs-pairs cycles d =
    three-pairs AreBelow cycles d (later-leg d.craft 1 201 (omega arith)) (later-leg d.craft 1 401 (omega arith)) (later-leg d.craft 201 401 (omega arith))

legs-cross : (a b : Draft) (x y : Leg) → a.craft < b.craft → x.craft ≡ a.craft → y.craft ≡ b.craft → AreBelow x y
legs-cross a b x y h e f = later-pair x.craft 0 x.from y.craft 0 y.from (omega arith)

-- Those of all aircraft are in their ranges, and in their order.
pub legs-listed : (count cycles : ℕ) (ds : List Draft) → All IsDraft ds → All (λ (d : Draft). d.craft < count) ds → AllPairs (λ (a b : Draft). a.craft < b.craft) ds
    → AreListed IsLeg leg_below count (flat_map (legs_of cycles) ds)
legs-listed count cycles ds near few rise = (
  all-flat Fits (IsLeg count) (legs_of cycles) ds (λ d h. legs-fit count cycles d h.0 h.1) (λ k d h. (near k d h, few k d h)),
  rising-pairs leg_below (flat_map (legs_of cycles) ds) (pairs-flat (λ (a b : Draft). a.craft < b.craft) AreBelow (λ (d : Draft) (leg : Leg). leg.craft ≡ d.craft) (legs_of cycles) ds legs-cross (legs-own cycles) (legs-pairs cycles) rise),
) where
  Fits : Draft → Type 0
  Fits d = IsDraft d × (d.craft < count)

-- What a filter keeps where all pass, and where none does.
filter-whole : {X : Type 0} (test : X → Bool) (xs : List X) → All (λ x. test x ≡ true) xs → filter test xs ≡ xs
filter-whole test [] all = refl
filter-whole test (x ∷ xs) all = rw (all 0 x (omega arith)) (ap (λ ys. x ∷ ys) (filter-whole test xs (λ k d h. all (suc k) d (omega arith))))

filter-nothing : {X : Type 0} (test : X → Bool) (xs : List X) → All (λ x. test x ≡ false) xs → filter test xs ≡ []
filter-nothing test [] all = refl
filter-nothing test (x ∷ xs) all = rw (all 0 x (omega arith)) (filter-nothing test xs (λ k d h. all (suc k) d (omega arith)))

same-craft : (a b : ℕ) → a ≡ b → (a == b) ≡ true
same-craft a b h = grind (arith, nat_tests)

other-craft : (a b : ℕ) → a ≢ b → (a == b) ≡ false
other-craft a b h = grind (arith, nat_tests)

-- The legs of one aircraft, among those of aircraft from `base` on.
pub legs-there : (cycles base : ℕ) (ds : List Draft) (k n : ℕ) (d : Draft) → n ≡ base + k → ((i : ℕ) (e : Draft) → i < length ds → (get_or ds i e).craft ≡ base + i) → k < length ds
    → filter (λ (leg : Leg). leg.craft == n) (flat_map (legs_of cycles) ds) ≡ legs_of cycles (get_or ds k d)
legs-there cycles base [] k n d is at within = absurd (omega arith)
legs-there cycles base (x ∷ ds) zero n d is at within =
    let test : Leg → Bool = λ leg. leg.craft == n in
    let here : x.craft ≡ base + 0 = at 0 x (omega arith) in
    let own : filter test (legs_of cycles x) ≡ legs_of cycles x = filter-whole test (legs_of cycles x) (λ i e h. let same = legs-own cycles x i e h in same-craft (get_or (legs_of cycles x) i e).craft n (omega arith)) in
    let rest : filter test (flat_map (legs_of cycles) ds) ≡ [] =
    filter-nothing test (flat_map (legs_of cycles) ds)
    (all-flat (λ (y : Draft). n < y.craft) (λ leg. test leg ≡ false) (legs_of cycles) ds
    (λ y above i e h. let same = legs-own cycles y i e h in other-craft (get_or (legs_of cycles y) i e).craft n (λ one. omega arith))
    (λ i e h. let next = at (suc i) e (omega arith) in omega arith)) in
    filter-append test (legs_of cycles x) (flat_map (legs_of cycles) ds) ∙ rw (own, rest) (append-nil (legs_of cycles x))
legs-there cycles base (x ∷ ds) (suc k) n d is at within =
    let test : Leg → Bool = λ leg. leg.craft == n in
    let here : x.craft ≡ base + 0 = at 0 x (omega arith) in
    let none : filter test (legs_of cycles x) ≡ [] = filter-nothing test (legs_of cycles x) (λ i e h. let same = legs-own cycles x i e h in other-craft (get_or (legs_of cycles x) i e).craft n (λ one. omega arith)) in
    filter-append test (legs_of cycles x) (flat_map (legs_of cycles) ds)
    ∙ rw none (legs-there cycles (suc base) ds k n d (omega arith) (λ i e h. let next = at (suc i) e (omega arith) in omega arith) (omega arith))
