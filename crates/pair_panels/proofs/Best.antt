-- The pair that is found is the nearest one.
use Rattle.std.proofs.Common.{◌≡◌, ℕ, zero, suc, ◌+◌, ◌-◌, ◌*◌, ◌<◌, ◌≤◌, true, eqb, cond, Option, Some, None, length, refl, sym, ap, ◌∙◌, subst, arith, inl, inr}
use Rattle.std.proofs.lemmas.Bool.{and_parts, cases_Bool, cases_eq, cases_lt, cond-false, cond-true, cond_both, le-ltb, lt-ltb, ltb-true}
use Rattle.std.specs.Prelude.{IfSome}
use Rattle.acas_base.specs.Encounter.{IsEncounter, Parts, most_crafts}
use Rattle.acas_base.specs.declared.TheConstants.{CRAFTS}
use Rattle.acas_base.specs.declared.pairs.TheConstants.{PAIRS}
use Rattle.flight.proofs.Nearest.{closest-is, least-alone, least-kept, least-new}
use Rattle.flight.specs.Approach.{IsClosest, IsFirstLeast, closest_cycle, range_between}
use Rattle.pair_panels.specs.Nearest.{IsNearest, IsPair, are_pair, high, low, near_pair, nearer, nearest_of, nearest_pair, pair_at}
use Rattle.pair_panels.specs.declared.nearest.NearPair.{NearPair}

-- The pair with a number is the nearest of those with the first numbers.
pub record IsBest (e : Parts) (n : ℕ) (best : NearPair) : Type 0 where
  pub number : ℕ
  pub below : number < n
  pub at : pair_at e number ≡ Some best
  pub least : (k : ℕ) (pair : NearPair) → k < n → pair_at e k ≡ Some pair → best.range ≤ pair.range
  pub first : (k : ℕ) (pair : NearPair) → k < number → pair_at e k ≡ Some pair → best.range < pair.range

abbrev BestOf : Parts → ℕ → Option NearPair → Type 0
BestOf e n None = (k : ℕ) (pair : NearPair) → k < n → pair_at e k ≡ Some pair → ⊥
BestOf e n (Some best) = IsBest e n best

none≢some : (pair : NearPair) → None ≡ Some pair → ⊥
none≢some pair same = cc same

some-is : (one other : NearPair) → Some one ≡ Some other → one.range ≡ other.range
some-is one other same = cc same

-- With the pair of one number more.
kept : (e : Parts) (n : ℕ) (best : Option NearPair) → BestOf e n best → pair_at e n ≡ None → BestOf e (suc n) best
kept e n None b none = λ k pair below at. elim (cases_eq k n) [
  | inl here ↦ none≢some pair (sym none ∙ ap (pair_at e) (sym here) ∙ at)
  | inr apart ↦ b k pair (omega arith) at
]
kept e n (Some best) b none = record {
  number = b.number;
  below = (let w = b.below in omega arith);
  at = b.at;
  least = λ k pair below at. elim (cases_eq k n) [
    | inl here ↦ absurd (none≢some pair (sym none ∙ ap (pair_at e) (sym here) ∙ at))
    | inr apart ↦ b.least k pair (omega arith) at
  ];
  first = b.first;
}

begun : (e : Parts) (n : ℕ) (next : NearPair) → BestOf e n None → pair_at e n ≡ Some next → IsBest e (suc n) next
begun e n next b some = record {
  number = n;
  below = omega arith;
  at = some;
  least = λ k pair below at. elim (cases_eq k n) [
    | inl here ↦ (let same = some-is next pair (sym some ∙ ap (pair_at e) (sym here) ∙ at) in omega arith)
    | inr apart ↦ absurd (b k pair (omega arith) at)
  ];
  first = λ k pair below at. absurd (b k pair below at);
}

replaced : (e : Parts) (n : ℕ) (best next : NearPair) → IsBest e n best → pair_at e n ≡ Some next → next.range < best.range → IsBest e (suc n) next
replaced e n best next b some less = record {
  number = n;
  below = omega arith;
  at = some;
  least = λ k pair below at. elim (cases_eq k n) [
    | inl here ↦ (let same = some-is next pair (sym some ∙ ap (pair_at e) (sym here) ∙ at) in omega arith)
    | inr apart ↦ (let it = b.least k pair (omega arith) at in omega arith)
  ];
  first = λ k pair below at. (let it = b.least k pair below at in omega arith);
}

stays : (e : Parts) (n : ℕ) (best next : NearPair) → IsBest e n best → pair_at e n ≡ Some next → best.range ≤ next.range → IsBest e (suc n) best
stays e n best next b some more = record {
  number = b.number;
  below = (let w = b.below in omega arith);
  at = b.at;
  least = λ k pair below at. elim (cases_eq k n) [
    | inl here ↦ (let same = some-is next pair (sym some ∙ ap (pair_at e) (sym here) ∙ at) in omega arith)
    | inr apart ↦ b.least k pair (omega arith) at
  ];
  first = b.first;
}

step : (e : Parts) (n : ℕ) (best next : Option NearPair) → BestOf e n best → pair_at e n ≡ next → BestOf e (suc n) (nearer best next)
step e n None None b at = kept e n None b at
step e n None (Some next) b at = begun e n next b at
step e n (Some best) None b at = kept e n (Some best) b at
step e n (Some best) (Some next) b at = elim (cases_lt next.range best.range) [
  | inl less ↦ subst (BestOf e (suc n)) (sym (ap (λ t. cond t (Some next) (Some best)) (lt-ltb next.range best.range less))) (replaced e n best next b at less)
  | inr more ↦ subst (BestOf e (suc n)) (sym (ap (λ t. cond t (Some next) (Some best)) (le-ltb next.range best.range more))) (stays e n best next b at more)
]

-- What holds of two pairs holds of the nearer one.
pub some-nearer : (P : NearPair → Type 0) (best next : Option NearPair) → IfSome best P → IfSome next P → IfSome (nearer best next) P
some-nearer P None next a b = b
some-nearer P (Some best) None a b = a
some-nearer P (Some best) (Some next) a b = elim (cases_lt next.range best.range) [
  | inl less ↦ subst (λ (o : Option NearPair). IfSome o P) (sym (ap (λ t. cond t (Some next) (Some best)) (lt-ltb next.range best.range less))) b
  | inr more ↦ subst (λ (o : Option NearPair). IfSome o P) (sym (ap (λ t. cond t (Some next) (Some best)) (le-ltb next.range best.range more))) a
]

best-of : (e : Parts) (n : ℕ) → BestOf e n (nearest_of e n)
best-of e zero = λ k pair below at. absurd (omega arith)
best-of e (suc n) = step e n (nearest_of e n) (pair_at e n) (best-of e n) refl

-- ---- numbers

few : (e : Parts) → IsEncounter e → length e.crafts ≤ 16
few e is =
    let a = is.crafts.few in
    let b : most_crafts e.version ≤ 16 = cond_both (eqb e.version 1) 8 CRAFTS (λ n. n ≤ 16) (λ _. omega arith) (λ _. omega arith) in
    omega arith

pub record IsNumber (one other : ℕ) : Type 0 where
  pub within : one * 16 + other < 256
  pub low_is : low (one * 16 + other) ≡ one
  pub high_is : high (one * 16 + other) ≡ other

number : (one other : ℕ) → one < 16 → other < 16 → IsNumber one other
number one other a b = record { within = omega arith; low_is = omega arith; high_is = omega arith }

pub record AreTwo (e : Parts) (one other : ℕ) : Type 0 where
  pub lower : one < other
  pub higher : other < length e.crafts

two : (e : Parts) (one other : ℕ) → are_pair e one other ≡ true → AreTwo e one other
two e one other are =
    let a = and_parts _ _ are in
    let b = and_parts _ _ a.1 in
    record { lower = ltb-true one other a.0; higher = ltb-true other (length e.crafts) b.0 }

has-number : (e : Parts) (one other : ℕ) → length e.crafts ≤ 16 → are_pair e one other ≡ true → pair_at e (one * 16 + other) ≡ Some (near_pair e one other)
unfolding pair_at
has-number e one other most are =
    let t = two e one other are in
    let lower = t.lower in
    let higher = t.higher in
    let is = number one other (omega arith) (omega arith) in
    let low_is = is.low_is in
    let high_is = is.high_is in
    rw low_is (rw high_is (cond-true (are_pair e one other) (Some (near_pair e one other)) None are))

pub record IsAt (e : Parts) (number : ℕ) (pair : NearPair) : Type 0 where
  pub are : are_pair e (low number) (high number) ≡ true
  pub is : near_pair e (low number) (high number) ≡ pair

at-number : (e : Parts) (number : ℕ) (pair : NearPair) → pair_at e number ≡ Some pair → IsAt e number pair
unfolding pair_at
at-number e number pair at = elim (cases_Bool (are_pair e (low number) (high number))) [
  | inl met ↦ record { are = met; is = cc (cond-true (are_pair e (low number) (high number)) (Some (near_pair e (low number) (high number))) None met, at) }
  | inr unmet ↦ absurd (none≢some pair (sym (cond-false (are_pair e (low number) (high number)) (Some (near_pair e (low number) (high number))) None unmet) ∙ at))
]

-- ---- the cycle in which two aircraft are nearest

pub record HasLeast (f : ℕ → ℕ) (n : ℕ) : Type 0 where
  pub best : ℕ
  pub is : IsFirstLeast f n best

has-least : (f : ℕ → ℕ) (n : ℕ) → HasLeast f (n + 1)
has-least f zero = record { best = 1; is = least-alone f }
has-least f (suc n) =
    let before = has-least f n in
    let one : n + 1 ≡ suc n = omega arith in
    let is : IsFirstLeast f (suc n) before.best = subst (λ (k : ℕ). IsFirstLeast f k before.best) one before.is in
    elim (cases_lt (f (suc n + 1)) (f before.best)) [
      | inl less ↦ record { best = suc n + 1; is = least-new f (suc n) before.best less is }
      | inr more ↦ record { best = before.best; is = least-kept f (suc n) before.best more is }
    ]

closest : (e : Parts) (one other : ℕ) → 1 ≤ e.cycles → IsClosest e one other (closest_cycle e one other)
closest e one other some =
    let f : ℕ → ℕ = range_between e one other in
    let end : (e.cycles - 1) + 1 ≡ e.cycles = omega arith in
    let least = has-least f (e.cycles - 1) in
    let is : IsClosest e one other least.best = subst (λ (k : ℕ). IsFirstLeast f k least.best) end least.is in
    subst (IsClosest e one other) (closest-is e one other least.best is) is

nearest : (e : Parts) → IsEncounter e → (best : Option NearPair) → BestOf e PAIRS best → IsNearest e best
nearest e valid None b =
    let most = few e valid in
    λ one other are. (
    let t = two e one other are in
    let lower = t.lower in
    let higher = t.higher in
    b (one * 16 + other) (near_pair e one other) (number one other (omega arith) (omega arith)).within (has-number e one other most are))
nearest e valid (Some best) b =
    let most = few e valid in
    let at = at-number e b.number best b.at in
    let one_is : best.one ≡ low b.number = sym (ap (λ (p : NearPair). p.one) at.is) in
    let other_is : best.other ≡ high b.number = sym (ap (λ (p : NearPair). p.other) at.is) in
    let cycle_is : best.cycle ≡ closest_cycle e (low b.number) (high b.number) = sym (ap (λ (p : NearPair). p.cycle) at.is) in
    record {
      are = rw one_is (rw other_is at.are);
      closest = rw one_is (rw other_is (rw cycle_is (closest e (low b.number) (high b.number) valid.run.length.0)));
      range = rw one_is (rw other_is (rw cycle_is (sym (ap (λ (p : NearPair). p.range) at.is))));
      least = λ one other are. (
          let t = two e one other are in
          let lower = t.lower in
          let higher = t.higher in
          b.least (one * 16 + other) (near_pair e one other) (number one other (omega arith) (omega arith)).within (has-number e one other most are));
      first = λ one other are less. (b.first (one * 16 + other) (near_pair e one other) (omega (arith, one_is, other_is, less)) (has-number e one other most are));
    }

pub nearest-is : (e : Parts) → IsEncounter e → IsNearest e (nearest_pair e)
unfolding nearest_pair
nearest-is e valid = nearest e valid (nearest_of e PAIRS) (best-of e PAIRS)

-- The nearest pair is one of the encounter, and its cycle one of the run.
pub is-pair : (e : Parts) (pair : NearPair) → IsNearest e (Some pair) → IsPair e pair
is-pair e pair nearest =
    let t = two e pair.one pair.other nearest.are in
    let lower = t.lower in
    let higher = t.higher in
    record { one = omega arith; other = higher; begun = nearest.closest.begun; in_run = nearest.closest.in_run }
