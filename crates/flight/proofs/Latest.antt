-- The leg that is flown in a cycle.
use Rattle.std.proofs.Common.{◌≡◌, ℕ, zero, suc, ◌+◌, ◌<◌, ◌≤◌, true, false, List, [], ◌∷◌, length, get_or, Option, Some, None, refl, ap, ◌∙◌, arith, inl, inr}
use Rattle.std.specs.Prelude.{All, IfSome, filter, fold, nat_le, nat_lt, min}
use Rattle.std.proofs.lemmas.Bool.{cases_lt, cond_both}
use Rattle.std.proofs.lemmas.Bool.Decides.{nat_tests}
use Rattle.std.proofs.lemmas.List.Elements.{All-filter}
use Rattle.std.proofs.lemmas.Option.{slice_get-get_or, slice_get_past}
use Rattle.acas_base.specs.declared.craft.Leg.{Leg}
use Rattle.flight.proofs.Courses.{any-leg}
use Rattle.flight.specs.Bounds.{IsCourse, begins}
use Rattle.flight.specs.Flight.{later, leg_in}

is-le : (a b : ℕ) → a ≤ b → nat_le a b ≡ true
is-le a b h = grind (arith, nat_tests)

is-gt : (a b : ℕ) → b < a → nat_le a b ≡ false
is-gt a b h = grind (arith, nat_tests)

is-lt : (a b : ℕ) → a < b → nat_lt a b ≡ true
is-lt a b h = grind (arith, nat_tests)

-- None of the legs has begun.
none-begun : (cycle : ℕ) (xs : List Leg) (best : Option Leg) → ((k : ℕ) (d : Leg) → k < length xs → cycle < (get_or xs k d).from)
    → fold later best (filter (λ (leg : Leg). nat_le leg.from cycle) xs) ≡ best
none-begun cycle [] best none = refl
none-begun cycle (x ∷ xs) best none =
    rw (is-gt x.from cycle (none 0 x (omega arith))) (none-begun cycle xs best (λ k d h. none (suc k) d (omega arith)))

-- The best so far begins before a leg.
abbrev Precedes : Option Leg → Leg → Type 0
Precedes None leg = Unit {0}
Precedes (Some best) leg = best.from < leg.from

later-takes : (best : Option Leg) (leg : Leg) → Precedes best leg → later best leg ≡ Some leg
later-takes None leg h = refl
later-takes (Some best) leg h = rw (is-lt best.from leg.from h) refl

abbrev Rises : List Leg → Type 0
Rises legs = (i j : ℕ) (d : Leg) → i < j → j < length legs → (get_or legs i d).from < (get_or legs j d).from

-- The legs up to an index have begun, and none behind it.
last-begun : (cycle : ℕ) (xs : List Leg) (m : ℕ) (d : Leg) (best : Option Leg) → m < length xs → Rises xs → Precedes best (get_or xs 0 d)
    → (get_or xs m d).from ≤ cycle → ((k : ℕ) (d : Leg) → m < k → k < length xs → cycle < (get_or xs k d).from)
    → fold later best (filter (λ (leg : Leg). nat_le leg.from cycle) xs) ≡ Some (get_or xs m d)
last-begun cycle [] m d best within rises precedes begun behind = absurd (omega arith)
last-begun cycle (x ∷ xs) zero d best within rises precedes begun behind =
    rw (is-le x.from cycle begun)
    (ap (λ b. fold later b (filter (λ (leg : Leg). nat_le leg.from cycle) xs)) (later-takes best x precedes) ∙ none-begun cycle xs (Some x) (λ k d h. behind (suc k) d (omega arith) (omega arith)))
last-begun cycle (x ∷ xs) (suc m) d best within rises precedes begun behind =
    let first : x.from < (get_or xs m d).from = rises 0 (suc m) d (omega arith) within in
    rw (is-le x.from cycle (omega arith))
    (ap (λ b. fold later b (filter (λ (leg : Leg). nat_le leg.from cycle) xs)) (later-takes best x precedes) ∙ last-begun cycle xs m d (Some x) (omega arith) (λ i j d h g. rises (suc i) (suc j) d (omega arith) (omega arith))
    (rises 0 1 d (omega arith) (omega arith)) begun (λ k d h g. behind (suc k) d (omega arith) (omega arith)))

pub begins-at : (legs : List Leg) (index cycle : ℕ) (d : Leg) → index < length legs → begins legs index cycle ≡ min (get_or legs index d).from cycle
begins-at legs index cycle d within = rw (slice_get-get_or legs index d within) refl

pub begins-past : (legs : List Leg) (index cycle : ℕ) → length legs ≤ index → begins legs index cycle ≡ cycle
begins-past legs index cycle past = rw (slice_get_past legs index past) refl

pub begins-le : (legs : List Leg) (index cycle : ℕ) → begins legs index cycle ≤ cycle
begins-le legs index cycle = elim (cases_lt index (length legs)) [
  | inl h ↦ omega (arith, begins-at legs index cycle any-leg h)
  | inr h ↦ omega (arith, begins-past legs index cycle h)
]

pub begins-some : (legs : List Leg) (index cycle : ℕ) → IsCourse legs → 1 ≤ cycle → 1 ≤ begins legs index cycle
begins-some legs index cycle course some = elim (cases_lt index (length legs)) [
  | inl h ↦ let from = course.from index any-leg h in omega (arith, from.0, begins-at legs index cycle any-leg h)
  | inr h ↦ omega (arith, begins-past legs index cycle h)
]

-- Each leg begins no later than the next.
pub begins-more : (legs : List Leg) (index cycle : ℕ) → IsCourse legs → index < length legs → begins legs index cycle ≤ begins legs (index + 1) cycle
begins-more legs index cycle course within = elim (cases_lt (index + 1) (length legs)) [
  | inl h ↦
      let rises = course.rising index (index + 1) any-leg (omega arith) h in
      omega (arith, rises, begins-at legs index cycle any-leg within, begins-at legs (index + 1) cycle any-leg h)
  | inr h ↦ omega (arith, begins-at legs index cycle any-leg within, begins-past legs (index + 1) cycle h)
]

-- A later leg begins no earlier than the next one does.
behind-next : (legs : List Leg) (index cycle : ℕ) (k : ℕ) (d : Leg) → IsCourse legs → index < k → k < length legs → begins legs (index + 1) cycle ≤ (get_or legs k d).from
behind-next legs index cycle k d course order within = elim (cases_lt (index + 1) k) [
  | inl h ↦
      let rises = course.rising (index + 1) k d h within in
      omega (arith, rises, begins-at legs (index + 1) cycle d (omega arith))
  | inr h ↦
      let same : index + 1 ≡ k = omega arith in
      let start : begins legs k cycle ≡ min (get_or legs k d).from cycle = begins-at legs k cycle d within in
      rw same (omega (arith, start))
]

-- From when a leg begins until the next one does, it is flown.
pub leg-at : (legs : List Leg) (index cycle c : ℕ) (d : Leg) → IsCourse legs → index < length legs
    → begins legs index cycle ≤ c → c < begins legs (index + 1) cycle → leg_in legs c ≡ Some (get_or legs index d)
unfolding leg_in
leg-at legs index cycle c d course within begun over =
    let begun_at = begins-at legs index cycle d within in
    let last = begins-le legs (index + 1) cycle in
    last-begun c legs index d None within course.rising tt (omega (arith, begun_at, last, begun, over))
    (λ k d h g. let next = behind-next legs index cycle k d course h g in omega (arith, next, over))

-- Before the first leg begins, none is flown.
pub leg-none : (legs : List Leg) (cycle c : ℕ) → IsCourse legs → c < begins legs 0 cycle → leg_in legs c ≡ None
unfolding leg_in
leg-none legs cycle c course early = none-begun c legs None each where
  each : (k : ℕ) (d : Leg) → k < length legs → c < (get_or legs k d).from
  each k d h = elim (cases_lt 0 k) [
    | inl g ↦
        let rises = course.rising 0 k d g h in
        let start = begins-at legs 0 cycle d (omega arith) in
        omega (arith, rises, start, early)
    | inr g ↦
        let same : k ≡ 0 = omega arith in
        let start = begins-at legs 0 cycle d (omega arith) in
        rw same (omega (arith, start, early))
  ]

kept : (P : Leg → Type 0) (best : Option Leg) (xs : List Leg) → IfSome best P → All P xs → IfSome (fold later best xs) P
kept P best [] h each = h
kept P best (x ∷ xs) h each = kept P (later best x) xs (one best h) (λ k d g. each (suc k) d (omega arith)) where
  one : (best : Option Leg) → IfSome best P → IfSome (later best x) P
  one None h = each 0 x (omega arith)
  one (Some b) h = cond_both (nat_lt b.from x.from) (Some x) (Some b) (λ o. IfSome o P) (λ _. each 0 x (omega arith)) (λ _. h)

-- What holds of all legs holds of the one that is flown.
pub leg-has : (P : Leg → Type 0) (legs : List Leg) (cycle : ℕ) → All P legs → IfSome (leg_in legs cycle) P
unfolding leg_in
leg-has P legs cycle each = kept P None (filter (λ (leg : Leg). nat_le leg.from cycle) legs) tt (All-filter (λ (leg : Leg). nat_le leg.from cycle) P legs each)
