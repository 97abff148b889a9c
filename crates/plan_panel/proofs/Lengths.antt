-- Shares of the box, and the length that its scale shows.
use Rattle.std.proofs.Common.{◌≡◌, ℕ, ◌*◌, ◌<◌, ◌≤◌, List, [], ◌∷◌, ℤ, pos, ◌+ℤ◌, ◌-ℤ◌, unsigned_abs, sym, subst, arith, inl, inr}
use Rattle.std.proofs.Math.Nat.{div-le_of_le-mul}
use Rattle.std.proofs.lemmas.Bool.{cases_lt, cond-false, cond-true, le-leb, lt-leb}
use Rattle.std.proofs.lemmas.Int.{ints}
use Rattle.std.proofs.lemmas.Nat.{le-div}
use Rattle.std.specs.Prelude.{nat_le}
use Rattle.plan_panel.specs.Marks.{length_for}
use Rattle.plot_axes.specs.Scale.{share}
use Rattle.plot_axes.specs.Steps.{step_for}

-- ---- shares

pub record IsShareWithin (least most at : ℕ) : Type 0 where
  pub least_is : least ≤ at
  pub most_is : at ≤ most

pub across : (whole part : ℕ) → 1 ≤ whole → whole ≤ 20 * part → 20 * part ≤ 19 * whole → IsShareWithin 400 7600 (share 8000 whole part)
across whole part some least most = record {
  least_is = le-div 400 (8000 * part) whole (omega arith) (omega arith);
  most_is = div-le_of_le-mul whole (omega arith);
}

pub upward : (whole part : ℕ) → 1 ≤ whole → whole ≤ 20 * part → 20 * part ≤ 19 * whole → IsShareWithin 300 5700 (share 6000 whole part)
upward whole part some least most = record {
  least_is = le-div 300 (6000 * part) whole (omega arith) (omega arith);
  most_is = div-le_of_le-mul whole (omega arith);
}

pub whole-is : (low : ℤ) (whole : ℕ) → unsigned_abs ((low +ℤ pos whole) -ℤ low) ≡ whole
whole-is low whole = omega (arith, ints)

-- ---- the length of the scale

pub record IsLength (whole step : ℕ) : Type 0 where
  pub some : 1 ≤ step
  pub short : 8 * step ≤ 3 * whole

-- Each step is at most three times the one before it.
abbrev RiseSlowly : ℕ → List ℕ → Type 0
RiseSlowly before [] = Unit {0}
RiseSlowly before (step ∷ steps) = ((1 ≤ step) × (step ≤ 3 * before)) × RiseSlowly step steps

-- Where eight of a step don't reach, the next one isn't too long.
next-is : (whole last : ℕ) (steps : List ℕ) → IsLength whole last → 8 * last < whole → RiseSlowly last steps → IsLength whole (step_for whole 8 last steps)
next-is whole last [] is less rises = is
next-is whole last (step ∷ steps) is less rises =
    let some = rises.0.0 in
    let slow = rises.0.1 in
    let this : IsLength whole step = record { some = some; short = omega arith } in
    elim (cases_lt (8 * step) whole) [
      | inl short ↦ subst (IsLength whole) (sym (cond-false (nat_le whole (8 * step)) step (step_for whole 8 step steps) (lt-leb whole (8 * step) short))) (next-is whole step steps this short rises.1)
      | inr met ↦ subst (IsLength whole) (sym (cond-true (nat_le whole (8 * step)) step (step_for whole 8 step steps) (le-leb whole (8 * step) met))) this
    ]

first-is : (whole last step : ℕ) (steps : List ℕ) → IsLength whole step → RiseSlowly step steps → IsLength whole (step_for whole 8 last (step ∷ steps))
first-is whole last step steps is rises = elim (cases_lt (8 * step) whole) [
  | inl short ↦ subst (IsLength whole) (sym (cond-false (nat_le whole (8 * step)) step (step_for whole 8 step steps) (lt-leb whole (8 * step) short))) (next-is whole step steps is short rises)
  | inr met ↦ subst (IsLength whole) (sym (cond-true (nat_le whole (8 * step)) step (step_for whole 8 step steps) (le-leb whole (8 * step) met))) is
]

slow : (before step : ℕ) → 1 ≤ step → step ≤ 3 * before → (1 ≤ step) × (step ≤ 3 * before)
slow before step some few = (some, few)

pub is-length : (whole : ℕ) → 6076 ≤ whole → IsLength whole (length_for whole)
unfolding length_for
is-length whole least =
    first-is whole 0 1519 (3038 ∷ 6076 ∷ 12152 ∷ 30380 ∷ 60760 ∷ 121520 ∷ 303800 ∷ 607600 ∷ []) (record { some = omega arith; short = omega arith }) (
      slow 1519 3038 (omega arith) (omega arith),
      (
        slow 3038 6076 (omega arith) (omega arith),
        (
          slow 6076 12152 (omega arith) (omega arith),
          (
            slow 12152 30380 (omega arith) (omega arith),
            (
              slow 30380 60760 (omega arith) (omega arith),
              (
                slow 60760 121520 (omega arith) (omega arith),
                (
                  slow 121520 303800 (omega arith) (omega arith),
                  (
                    slow 303800 607600 (omega arith) (omega arith),
                    tt,
                  ),
                ),
              ),
            ),
          ),
        ),
      ),
    )
