-- The nearest of more and more pairs.
use Rattle.std.proofs.Common.{◌≡◌, ℕ, ◌+◌, ◌<◌, ◌≤◌, true, false, nat_lt, length, Option, Some, None, sym, subst, arith, inl, inr}
use Rattle.std.specs.Prelude.{MatchOption}
use Rattle.std.proofs.lemmas.Bool.{cases_lt, cond-false, cond-true}
use Rattle.std.proofs.lemmas.Bool.Decides.{nat_tests}
use Rattle.acas_base.specs.Encounter.{Parts}
use Rattle.outcomes.specs.Nearest.{IsApproach, IsApproachBelow, IsFoundBelow, IsNearestApproach, IsNoneBelow, least_range, nearer, place_of_pair}
use Rattle.outcomes.specs.declared.nearest.Approach.{Approach}

-- ---- places

-- Two pairs of one place are one pair.
same-low : (a b c d : ℕ) → b < 16 → d < 16 → place_of_pair c d ≡ place_of_pair a b → a ≡ c
same-low a b c d hb hd e = omega arith

same-high : (a b c d : ℕ) → b < 16 → d < 16 → place_of_pair c d ≡ place_of_pair a b → b ≡ d
same-high a b c d hb hd e = omega arith

-- ---- one pair more

-- The first pair of all.
pub first-one : (e : Parts) (next : Approach) → length e.crafts ≤ 16 → next.low < next.high → next.high < length e.crafts → IsApproach e next →
    IsNoneBelow e (place_of_pair next.low next.high) → IsApproachBelow e (place_of_pair next.low next.high + 1) next
first-one e next few lower higher is none = record {
  approach = is;
  nearest = record {
    lower = lower;
    higher = higher;
    least = λ c d lo hi below.
        let from = none.none c d lo hi in
        let place : place_of_pair c d ≡ place_of_pair next.low next.high = omega arith in
        let a = same-low next.low next.high c d (omega arith) (omega arith) place in
        let b = same-high next.low next.high c d (omega arith) (omega arith) place in
        subst (λ k. least_range e next.low next.high ≤ least_range e k d) a (subst (λ k. least_range e next.low next.high ≤ least_range e next.low k) b (omega arith));
    first = λ c d lo hi before. absurd (let from = none.none c d lo hi in omega arith);
  };
}

-- The next pair comes nearer.
pub nearer-one : (e : Parts) (found next : Approach) → length e.crafts ≤ 16 → next.low < next.high → next.high < length e.crafts → IsApproach e next →
    IsApproachBelow e (place_of_pair next.low next.high) found → next.range < found.range → IsApproachBelow e (place_of_pair next.low next.high + 1) next
nearer-one e found next few lower higher is before less = record {
  approach = is;
  nearest = record {
    lower = lower;
    higher = higher;
    least = λ c d lo hi below. elim (cases_lt (place_of_pair c d) (place_of_pair next.low next.high)) [
      | inl earlier ↦ (let least = before.nearest.least c d lo hi earlier in let r = is.range in let s = before.approach.range in omega arith)
      | inr later ↦
          (let place : place_of_pair c d ≡ place_of_pair next.low next.high = omega arith in
          let a = same-low next.low next.high c d (omega arith) (omega arith) place in
          let b = same-high next.low next.high c d (omega arith) (omega arith) place in
          subst (λ k. least_range e next.low next.high ≤ least_range e k d) a (subst (λ k. least_range e next.low next.high ≤ least_range e next.low k) b (omega arith)))
    ];
    first = λ c d lo hi earlier. (let least = before.nearest.least c d lo hi earlier in let r = is.range in let s = before.approach.range in omega arith);
  };
}

-- It doesn't.
pub kept-one : (e : Parts) (found next : Approach) → length e.crafts ≤ 16 → next.low < next.high → next.high < length e.crafts → IsApproach e next →
    IsApproachBelow e (place_of_pair next.low next.high) found → found.range ≤ next.range → IsApproachBelow e (place_of_pair next.low next.high + 1) found
kept-one e found next few lower higher is before more = record {
  approach = before.approach;
  nearest = record {
    lower = before.nearest.lower;
    higher = before.nearest.higher;
    least = λ c d lo hi below. elim (cases_lt (place_of_pair c d) (place_of_pair next.low next.high)) [
      | inl earlier ↦ before.nearest.least c d lo hi earlier
      | inr later ↦
          (let place : place_of_pair c d ≡ place_of_pair next.low next.high = omega arith in
          let a = same-low next.low next.high c d (omega arith) (omega arith) place in
          let b = same-high next.low next.high c d (omega arith) (omega arith) place in
          subst (λ k. least_range e found.low found.high ≤ least_range e k d) a
          (subst (λ k. least_range e found.low found.high ≤ least_range e next.low k) b (let r = is.range in let s = before.approach.range in omega arith)))
    ];
    first = before.nearest.first;
  };
}

-- The nearer one of both.
pub nearer-of : (e : Parts) (found next : Approach) → length e.crafts ≤ 16 → next.low < next.high → next.high < length e.crafts → IsApproach e next →
    IsApproachBelow e (place_of_pair next.low next.high) found → IsApproachBelow e (place_of_pair next.low next.high + 1) (nearer found next)
nearer-of e found next few lower higher is before = elim (cases_lt next.range found.range) [
  | inl less ↦
      (let test : nat_lt next.range found.range ≡ true = grind (arith, nat_tests) in
      subst (IsApproachBelow e (place_of_pair next.low next.high + 1)) (sym (cond-true (nat_lt next.range found.range) next found test)) (nearer-one e found next few lower higher is before less))
  | inr more ↦
      (let test : nat_lt next.range found.range ≡ false = grind (arith, nat_tests) in
      subst (IsApproachBelow e (place_of_pair next.low next.high + 1)) (sym (cond-false (nat_lt next.range found.range) next found test)) (kept-one e found next few lower higher is before more))
]

-- The same of a pair with these indices.
pub with-some : (e : Parts) (a b : ℕ) (before : Option Approach) (found next now : Approach) → length e.crafts ≤ 16 → a < b → b < length e.crafts → next.low ≡ a → next.high ≡ b → IsApproach e next →
    IsFoundBelow e (place_of_pair a b) before → before ≡ Some found → now ≡ nearer found next → IsFoundBelow e (place_of_pair a b + 1) (Some now)
with-some e a b before found next now few lower higher low high is was at now_is =
    let place : place_of_pair next.low next.high ≡ place_of_pair a b = omega (arith, low, high) in
    let old : IsApproachBelow e (place_of_pair next.low next.high) found = subst (λ n. IsApproachBelow e n found) (sym place) (subst (IsFoundBelow e (place_of_pair a b)) at was) in
    subst (IsApproachBelow e (place_of_pair a b + 1)) (sym now_is)
    (subst (λ n. IsApproachBelow e (n + 1) (nearer found next)) place (nearer-of e found next few (omega (arith, low, high, lower)) (omega (arith, high, higher)) is old))

pub with-none : (e : Parts) (a b : ℕ) (before : Option Approach) (next : Approach) → length e.crafts ≤ 16 → a < b → b < length e.crafts → next.low ≡ a → next.high ≡ b → IsApproach e next →
    IsFoundBelow e (place_of_pair a b) before → before ≡ None → IsFoundBelow e (place_of_pair a b + 1) (Some next)
with-none e a b before next few lower higher low high is was at =
    let place : place_of_pair next.low next.high ≡ place_of_pair a b = omega (arith, low, high) in
    let old : IsNoneBelow e (place_of_pair next.low next.high) = subst (IsNoneBelow e) (sym place) (subst (IsFoundBelow e (place_of_pair a b)) at was) in
    subst (λ n. IsApproachBelow e (n + 1) next) place (first-one e next few (omega (arith, low, high, lower)) (omega (arith, high, higher)) is old)

-- ---- from place to place

-- No pair has a place from one to the other.
pub found-on : (e : Parts) (from to : ℕ) (found : Option Approach) → from ≤ to → ((c d : ℕ) → c < d → d < length e.crafts → place_of_pair c d < to → place_of_pair c d < from) → IsFoundBelow e from found → IsFoundBelow e to found
found-on e from to None order gap is = record {
  none = λ c d lo hi. (let before = is.none c d lo hi in elim (cases_lt (place_of_pair c d) to) [
    | inl below ↦ absurd (let b = gap c d lo hi below in omega arith)
    | inr above ↦ above
  ]);
}
found-on e from to (Some it) order gap is = record {
  approach = is.approach;
  nearest = record {
    lower = is.nearest.lower;
    higher = is.nearest.higher;
    least = λ c d lo hi below. is.nearest.least c d lo hi (gap c d lo hi below);
    first = is.nearest.first;
  };
}

-- Before the first pair.
pub none-found : (e : Parts) → IsFoundBelow e (place_of_pair 0 (0 + 1)) None
none-found e = record { none = λ c d lo hi. omega arith }

-- After the pairs of an aircraft.
pub row-done : (e : Parts) (a : ℕ) (found : Option Approach) → a < length e.crafts → length e.crafts ≤ 16 → IsFoundBelow e (place_of_pair a (length e.crafts)) found → IsFoundBelow e (place_of_pair (a + 1) (a + 2)) found
row-done e a found own few is = found-on e (place_of_pair a (length e.crafts)) (place_of_pair (a + 1) (a + 2)) found (omega arith) (λ c d lo hi below. elim (cases_lt a c) [
  | inl after ↦ absurd (omega arith)
  | inr before ↦ omega arith
]) is

-- After all pairs.
pub all-done : (e : Parts) (found : Option Approach) → 1 ≤ length e.crafts → length e.crafts ≤ 16 → IsFoundBelow e (place_of_pair (length e.crafts) (length e.crafts + 1)) found → MatchOption found (length e.crafts ≡ 1) (IsNearestApproach e)
all-done e None some few is = elim (cases_lt 1 (length e.crafts)) [
  | inl two ↦ absurd (let b = is.none 0 1 (omega arith) two in omega arith)
  | inr one ↦ omega arith
]
all-done e (Some it) some few is = record {
  approach = is.approach;
  nearest = record {
    lower = is.nearest.lower;
    higher = is.nearest.higher;
    least = λ c d lo hi. is.nearest.least c d lo hi (omega arith);
    first = is.nearest.first;
  };
}
