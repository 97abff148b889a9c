-- The axis of a distance holds it in each cycle.
use Rattle.std.proofs.Common.{ℕ, zero, suc, ◌+◌, ◌*◌, ◌/◌, ◌<◌, ◌≤◌, List, [], ◌∷◌, sym, subst, arith, inl, inr}
use Rattle.std.proofs.Math.Nat.{add-mul, div-mul-le_self, lt-div-mul-add}
use Rattle.std.proofs.lemmas.Bool.{cases_Bool, cases_eq, cond-false, cond-true}
use Rattle.std.specs.Prelude.{nat_le}
use Rattle.std.specs.List.{AllByRecursion}
use Rattle.acas_base.specs.Encounter.{Parts}
use Rattle.pair_panels.specs.Distances.{HoldsAll, aim_of, distance_in, end_of, greatest, step_of, ticks_for, ticks_of}
use Rattle.pair_panels.specs.declared.distance.Distance.{Distance}
use Rattle.pair_panels.specs.declared.distance.Distance.TheVariants.{Slant, Vertical}
use Rattle.pair_panels.specs.declared.nearest.NearPair.{NearPair}
use Rattle.plot_axes.specs.Steps.{step_for}

-- ---- steps

abbrev IsStep : ℕ → Type 0
IsStep step = (1 ≤ step) × (step ≤ 607600)

each-step : (span most last : ℕ) (steps : List ℕ) → IsStep last → AllByRecursion IsStep steps → IsStep (step_for span most last steps)
each-step span most last [] is all = is
each-step span most last (step ∷ steps) is all = elim (cases_Bool (nat_le span (most * step))) [
  | inl met ↦ subst IsStep (sym (cond-true (nat_le span (most * step)) step (step_for span most step steps) met)) all.0
  | inr unmet ↦ subst IsStep (sym (cond-false (nat_le span (most * step)) step (step_for span most step steps) unmet)) (each-step span most step steps all.0 all.1)
]

first-step : (span most last step : ℕ) (steps : List ℕ) → IsStep step → AllByRecursion IsStep steps → IsStep (step_for span most last (step ∷ steps))
first-step span most last step steps is all = elim (cases_Bool (nat_le span (most * step))) [
  | inl met ↦ subst IsStep (sym (cond-true (nat_le span (most * step)) step (step_for span most step steps) met)) is
  | inr unmet ↦ subst IsStep (sym (cond-false (nat_le span (most * step)) step (step_for span most step steps) unmet)) (each-step span most step steps is all)
]

it : (step : ℕ) → 1 ≤ step → step ≤ 607600 → IsStep step
it step a b = (a, b)

pub is-step : (distance : Distance) (most : ℕ) → IsStep (step_of distance most)
unfolding step_of
is-step Slant most = first-step most 5 0 1519 (3038 ∷ 6076 ∷ 12152 ∷ 30380 ∷ 60760 ∷ 121520 ∷ 303800 ∷ 607600 ∷ []) (it 1519 (omega arith) (omega arith)) (it 3038 (omega arith) (omega arith), (it 6076 (omega arith) (omega arith), (it 12152 (omega arith) (omega arith), (it 30380 (omega arith) (omega arith), (it 60760 (omega arith) (omega arith), (it 121520 (omega arith) (omega arith), (it 303800 (omega arith) (omega arith), (it 607600 (omega arith) (omega arith), tt))))))))
is-step Vertical most = first-step most 5 0 100 (200 ∷ 500 ∷ 1000 ∷ 2000 ∷ 5000 ∷ 10000 ∷ 20000 ∷ []) (it 100 (omega arith) (omega arith)) (it 200 (omega arith) (omega arith), (it 500 (omega arith) (omega arith), (it 1000 (omega arith) (omega arith), (it 2000 (omega arith) (omega arith), (it 5000 (omega arith) (omega arith), (it 10000 (omega arith) (omega arith), (it 20000 (omega arith) (omega arith), tt)))))))

-- ---- the end of the axis

pub record IsEnd (most step : ℕ) : Type 0 where
  pub past : most < (most / step + 1) * step
  pub near : (most / step + 1) * step ≤ most + step

pub is-end : (most step : ℕ) → 1 ≤ step → IsEnd most step
is-end most step some =
    let sum = add-mul (most / step) 1 step in
    record { past = omega (arith, sum, lt-div-mul-add {a = most} some); near = omega (arith, sum, div-mul-le_self most step) }

pub holds : (distance : Distance) (most : ℕ) → most < end_of (ticks_for distance most)
unfolding ticks_for
holds distance most = (is-end most (step_of distance most) (is-step distance most).0).past

-- ---- the greatest distance

at-least : (e : Parts) (distance : Distance) (pair : NearPair) (least n : ℕ) → least ≤ greatest e distance pair least n
at-least e distance pair least zero = omega arith
at-least e distance pair least (suc n) = let ih = at-least e distance pair least n in omega arith

no-more : (e : Parts) (distance : Distance) (pair : NearPair) (least n cycle : ℕ) → 1 ≤ cycle → cycle ≤ n → distance_in e distance pair cycle ≤ greatest e distance pair least n
no-more e distance pair least zero cycle first last = absurd (omega arith)
no-more e distance pair least (suc n) cycle first last = elim (cases_eq cycle (suc n)) [
  | inl here ↦ subst (λ (k : ℕ). distance_in e distance pair k ≤ greatest e distance pair least (suc n)) (sym here) (omega arith)
  | inr apart ↦ (let ih = no-more e distance pair least n cycle first (omega arith) in omega arith)
]

pub holds-all : (e : Parts) (distance : Distance) (pair : NearPair) → HoldsAll e distance pair
unfolding ticks_of
holds-all e distance pair =
    let aim = aim_of e distance pair in
    let most = greatest e distance pair aim e.cycles in
    let end = holds distance most in
    record {
      each = λ cycle first last. (let it = no-more e distance pair aim e.cycles cycle first last in omega (arith, it, end));
      aim = (let it = at-least e distance pair aim e.cycles in omega (arith, it, end));
    }
