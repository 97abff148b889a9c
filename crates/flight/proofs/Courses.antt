-- The legs of one aircraft among those of all.
use Rattle.std.proofs.Common.{◌≡◌, ℕ, zero, suc, ◌+◌, ◌-◌, ◌<◌, ◌≤◌, Bool, true, false, List, [], ◌∷◌, pos, length, get_or, take, drop, refl, sym, ap, arith, inl, inr}
use Rattle.std.specs.Prelude.{All, filter, ◌==◌, nat_lt}
use Rattle.std.specs.List.Sorted.{IsNonDecreasingBy, IsPartitionPoint}
use Rattle.std.proofs.lemmas.Bool.{cases_lt}
use Rattle.std.proofs.lemmas.Bool.Decides.{nat_tests}
use Rattle.std.proofs.lemmas.List.Elements.{All-filter, filter_passes}
use Rattle.std.proofs.lemmas.List.Kept.{AllPairs-filter}
use Rattle.std.proofs.lemmas.List.Sorted.{IsNonDecreasingBy-from_all_adjacent}
use Rattle.acas_base.proofs.KeyOrder.{below-trans}
use Rattle.acas_base.proofs.Rising.{rising-pairs}
use Rattle.acas_base.specs.Encounter.{AreRates, IsLeg}
use Rattle.acas_base.specs.Order.{IsRising, is_below, leg_below}
use Rattle.acas_base.specs.Ranges.{IsCycle}
use Rattle.acas_base.specs.declared.craft.Leg.{Leg}
use Rattle.flight.specs.Bounds.{IsCourse}

pub below-first : (a b c d e f : ℕ) → is_below (a, b, c) (d, e, f) ≡ true → a ≤ d
below-first a b c d e f below = grind (arith, nat_tests)

below-last : (a c d f : ℕ) → is_below (a, 0, c) (d, 0, f) ≡ true → a ≡ d → c < f
below-last a c d f below same = grind (arith, nat_tests)

legs-trans : (a b c : Leg) → leg_below a b ≡ true → leg_below b c ≡ true → leg_below a c ≡ true
legs-trans a b c one two = below-trans a.craft 0 a.from b.craft 0 b.from c.craft 0 c.from one two

pub crafts-rise : (legs : List Leg) → IsRising leg_below legs → IsNonDecreasingBy (λ (leg : Leg). leg.craft) legs
crafts-rise legs rising =
    IsNonDecreasingBy-from_all_adjacent (λ (leg : Leg). leg.craft) legs
    (λ k d h. let a = get_or legs k d in let b = get_or legs (k + 1) d in below-first a.craft 0 a.from b.craft 0 b.from (rising k d h))

-- What a filter keeps, where only the elements of one part of a list pass.
pub filter-middle : {X : Type 0} (test : X → Bool) (xs : List X) (a n : ℕ) → a + n ≤ length xs
    → ((k : ℕ) (d : X) → k < a → test (get_or xs k d) ≡ false)
    → ((k : ℕ) (d : X) → a ≤ k → k < a + n → test (get_or xs k d) ≡ true)
    → ((k : ℕ) (d : X) → a + n ≤ k → k < length xs → test (get_or xs k d) ≡ false)
    → filter test xs ≡ take n (drop a xs)
filter-middle test [] zero zero within front middle back = refl
filter-middle test [] (suc a) n within front middle back = absurd (omega arith)
filter-middle test [] zero (suc n) within front middle back = absurd (omega arith)
filter-middle test (x ∷ xs) (suc a) n within front middle back =
    rw (front 0 x (omega arith))
    (filter-middle test xs a n (omega arith)
    (λ k d h. front (suc k) d (omega arith))
    (λ k d h g. middle (suc k) d (omega arith) (omega arith))
    (λ k d h g. back (suc k) d (omega arith) (omega arith)))
filter-middle test (x ∷ xs) zero (suc n) within front middle back =
    rw (middle 0 x (omega arith) (omega arith))
    (ap (λ ys. x ∷ ys) (filter-middle test xs zero n (omega arith)
    (λ k d h. absurd (omega arith))
    (λ k d h g. middle (suc k) d (omega arith) (omega arith))
    (λ k d h g. back (suc k) d (omega arith) (omega arith))))
filter-middle test (x ∷ xs) zero zero within front middle back =
    rw (back 0 x (omega arith) (omega arith))
    (filter-middle test xs zero zero (omega arith)
    (λ k d h. absurd (omega arith))
    (λ k d h g. absurd (omega arith))
    (λ k d h g. back (suc k) d (omega arith) (omega arith)))

-- The legs of aircraft before one stand in front of an index.
abbrev pub PartedAt : List Leg → ℕ → ℕ → Type 0
PartedAt legs craft n = IsPartitionPoint (λ (leg : Leg). nat_lt leg.craft craft ≡ true) (λ (leg : Leg). nat_lt leg.craft craft ≡ false) legs n

pub before : (a b : ℕ) → nat_lt a b ≡ true → (a == b) ≡ false
before a b h = grind (arith, nat_tests)

never : (a b : ℕ) → nat_lt a b ≡ true → nat_lt a (b + 1) ≡ false → ⊥
never a b h g = grind (arith, nat_tests)

within : (a b : ℕ) → nat_lt a b ≡ false → nat_lt a (b + 1) ≡ true → (a == b) ≡ true
within a b h g = grind (arith, nat_tests)

past : (a b : ℕ) → nat_lt a (b + 1) ≡ false → (a == b) ≡ false
past a b h = grind (arith, nat_tests)

-- A leg where one is asked for that no fact speaks of.
abbrev pub any-leg : Leg
any-leg = record { craft = 0; from = 0; vx = pos 0; vy = pos 0; vz = pos 0 }

pub in-order : (legs : List Leg) (craft a b : ℕ) → PartedAt legs craft a → PartedAt legs (craft + 1) b → a ≤ length legs → a ≤ b
in-order legs craft a b one two size = elim (cases_lt b a) [
  | inl h ↦ absurd (never (get_or legs b any-leg).craft craft (one.0 b any-leg (omega arith) (omega arith)) (two.1 b any-leg (omega arith) (omega arith)))
  | inr h ↦ omega arith
]

-- The legs of an aircraft stand behind those of aircraft before it, and in front of those of aircraft after it.
pub legs-there : (legs : List Leg) (craft a b : ℕ) → PartedAt legs craft a → PartedAt legs (craft + 1) b → a ≤ length legs → b ≤ length legs
    → take (b - a) (drop a legs) ≡ filter (λ (leg : Leg). leg.craft == craft) legs
legs-there legs craft a b one two first last =
    let order : a ≤ b = in-order legs craft a b one two first in
    sym (filter-middle (λ (leg : Leg). leg.craft == craft) legs a (b - a) (omega arith)
    (λ k d h. before (get_or legs k d).craft craft (one.0 k d (omega arith) (omega arith)))
    (λ k d h g. within (get_or legs k d).craft craft (one.1 k d (omega arith) (omega arith)) (two.0 k d (omega arith) (omega arith)))
    (λ k d h g. past (get_or legs k d).craft craft (two.1 k d (omega arith) (omega arith))))

-- The legs of one aircraft are a course.
pub course-of : (legs : List Leg) (count craft : ℕ) → IsRising leg_below legs → All (IsLeg count) legs → IsCourse (filter (λ (leg : Leg). leg.craft == craft) legs)
course-of legs count craft rising listed = record {
  rising = λ i j d order within.
      let is_of : Leg → Bool = λ leg. leg.craft == craft in
      let own = filter is_of legs in
      let a = get_or own i d in
      let b = get_or own j d in
      let below : leg_below a b ≡ true = AllPairs-filter (λ (a b : Leg). leg_below a b ≡ true) is_of legs (rising-pairs leg_below legs legs-trans rising) i j d order within in
      let first : (a.craft == craft) ≡ true = filter_passes is_of legs i d (omega arith) in
      let second : (b.craft == craft) ≡ true = filter_passes is_of legs j d within in
      let same : a.craft ≡ b.craft = grind (arith, nat_tests) in
      below-last a.craft a.from b.craft b.from below same;
  from = All-filter (λ (leg : Leg). leg.craft == craft) (λ (leg : Leg). IsCycle leg.from) legs (λ k d h. (listed k d h).from);
  rates = All-filter (λ (leg : Leg). leg.craft == craft) AreRates legs (λ k d h. (listed k d h).rates);
}
