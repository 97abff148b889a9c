-- A rate that doesn't move: in the delay, or because it is the goal already.
use Rattle.std.proofs.Common.{◌≡◌, ℕ, zero, suc, ◌-◌, ◌*◌, ◌≤◌, ℤ, pos, negsuc, ◌+ℤ◌, ◌-ℤ◌, ◌*ℤ◌, ◌≤ℤ◌, refl, sym, ap, ap₂, ◌∙◌, cond, leb, leb-false, arith}
use Rattle.std.proofs.lemmas.Bool.{cond_both}
use Rattle.std.proofs.lemmas.Int.{ints, clamps}
use Rattle.std.specs.Prelude.{int_le}
use Rattle.std.specs.Int.{int_div_euclid, int_min, int_max}
use Rattle.acas_base.specs.declared.advisory.Sense.{Sense}
use Rattle.acas_base.specs.Strengths.{floor_of}
use Rattle.acas_base.specs.declared.advisory.Strength.{Strength}
use Rattle.acas_base.specs.declared.advisory.Strength.TheVariants.{Level}
use Rattle.acas_base.specs.declared.advisory.Sense.TheVariants.{Up, Down}
use Rattle.acas_base.specs.declared.setting.Profile.{Profile}
use Rattle.acas_base.specs.declared.setting.Profile.TheVariants.{One}
use Rattle.craft_view.specs.Separations.{apart, asked_rate, judged_rate, kept_after, own_after, separation, IsApproach}
use Rattle.craft_view.specs.declared.motion.Estimate.{Estimate}
use Rattle.craft_view.specs.declared.motion.Motion.{Motion}
use Rattle.craft_view.specs.declared.separations.Approach.{Approach}
use Rattle.craft_view.specs.declared.separations.Response.{Response}
use Rattle.project.specs.Projection.{projected, rate_at, rates}

rate-in-delay : (v goal : ℤ) (delay : ℕ) (step : ℤ) (h : ℕ) → h ≤ delay → rate_at v goal delay step h ≡ v
rate-in-delay v goal delay step h early =
    cond_both (leb h delay) v (cond (int_le v goal) (int_min (v +ℤ (pos (h - delay) *ℤ step)) goal) (int_max (v -ℤ (pos (h - delay) *ℤ step)) goal))
    (λ x. x ≡ v) (λ _. refl) (λ e. absurd (omega (arith, early, leb-false _ _ e)))

rate-at-goal : (v : ℤ) (delay step h : ℕ) → rate_at v v delay (pos step) h ≡ v
rate-at-goal v delay step h =
    let a = (h - delay) * step in
    cond_both (leb h delay) v (cond (int_le v v) (int_min (v +ℤ pos a) v) (int_max (v -ℤ pos a) v)) (λ x. x ≡ v)
    (λ _. refl)
    (λ _. cond_both (int_le v v) (int_min (v +ℤ pos a) v) (int_max (v -ℤ pos a) v) (λ x. x ≡ v) (λ _. omega (arith, ints, clamps)) (λ _. omega (arith, ints, clamps)))

none : (v : ℤ) → pos 0 ≡ pos 0 *ℤ v
none v = omega (arith, ints)

one-more : (v : ℤ) (n : ℕ) → (pos n *ℤ v) +ℤ v ≡ pos (suc n) *ℤ v
one-more v n = omega (arith, ints)

rates-in-delay : (v goal : ℤ) (delay : ℕ) (step : ℤ) (n : ℕ) → n ≤ delay → rates v goal delay step n ≡ pos n *ℤ v
rates-in-delay v goal delay step zero early = none v
rates-in-delay v goal delay step (suc n) early =
    ap₂ (λ (x y : ℤ). x +ℤ y) (rates-in-delay v goal delay step n (omega arith)) (rate-in-delay v goal delay step (suc n) early) ∙ one-more v n

rates-at-goal : (v : ℤ) (delay step n : ℕ) → rates v v delay (pos step) n ≡ pos n *ℤ v
rates-at-goal v delay step zero = none v
rates-at-goal v delay step (suc n) = ap₂ (λ (x y : ℤ). x +ℤ y) (rates-at-goal v delay step n) (rate-at-goal v delay step (suc n)) ∙ one-more v n

turned : (v : ℤ) (n : ℕ) → v *ℤ pos n ≡ pos n *ℤ v
turned v n = omega (arith, ints)

after : (z v sum : ℤ) (n : ℕ) → sum ≡ pos n *ℤ v → z +ℤ int_div_euclid (v *ℤ pos n) (pos 2) ≡ z +ℤ int_div_euclid sum (pos 2)
after z v sum n is = ap (λ (x : ℤ). z +ℤ int_div_euclid x (pos 2)) (turned v n ∙ sym is)

-- There is no time to respond.
pub after-in-delay : (profile : Profile) (own : Estimate) (halves : ℕ) (response : Response) (sense : Sense) (strength : Strength) → halves ≤ response.delay
    → kept_after own halves ≡ own_after profile own halves response sense strength
unfolding kept_after own_after
after-in-delay profile own halves response sense strength early =
    let goal = judged_rate profile sense strength own.rate in
    after own.est own.rate (rates own.rate goal response.delay response.step halves) halves (rates-in-delay own.rate goal response.delay response.step halves early)

-- Own aircraft does already what is asked for.
pub after-at-goal : (profile : Profile) (own : Estimate) (halves : ℕ) (response : Response) (sense : Sense) (strength : Strength) → pos 1 ≤ℤ response.step
    → judged_rate profile sense strength own.rate ≡ own.rate → kept_after own halves ≡ own_after profile own halves response sense strength
unfolding kept_after own_after
after-at-goal profile own halves response sense strength forward met =
    at-goal response.step forward ∙ ap (λ (goal : ℤ). projected own.est own.rate goal response.delay response.step halves) (sym met)
  where
    at-goal : (step : ℤ) → pos 1 ≤ℤ step → own.est +ℤ int_div_euclid (own.rate *ℤ pos halves) (pos 2) ≡ projected own.est own.rate own.rate response.delay step halves
    at-goal (pos step) forward = after own.est own.rate (rates own.rate own.rate response.delay (pos step) halves) halves (rates-at-goal own.rate response.delay step halves)
    at-goal (negsuc k) forward = absurd (omega (arith, ints, forward))

-- The separation at kept rates.
pub separation-kept : (profile : Profile) (m : Motion) (approach : Approach) (response : Response) (sense : Sense) (strength : Strength) → IsApproach m approach
    → kept_after m.own approach.halves ≡ own_after profile m.own approach.halves response sense strength → apart sense approach.own approach.target ≡ separation profile m approach.halves response sense strength
unfolding separation
separation-kept profile m approach response sense strength is keeps = ap₂ (apart sense) (is.own ∙ keeps) is.target

pub separation-in-delay : (profile : Profile) (m : Motion) (approach : Approach) (response : Response) (sense : Sense) (strength : Strength) → IsApproach m approach → approach.halves ≤ response.delay
    → apart sense approach.own approach.target ≡ separation profile m approach.halves response sense strength
separation-in-delay profile m approach response sense strength is early = separation-kept profile m approach response sense strength is (after-in-delay profile m.own approach.halves response sense strength early)

-- What meets a floor meets a lower one.
pub meets-lower : (sense : Sense) (lower strength : Strength) (rate : ℤ) → floor_of lower ≤ℤ floor_of strength → asked_rate sense strength rate ≡ rate → asked_rate sense lower rate ≡ rate
unfolding asked_rate
meets-lower Up lower strength rate low meets = omega (arith, ints, clamps, low, meets)
meets-lower Down lower strength rate low meets = omega (arith, ints, clamps, low, meets)

pub separation-met : (m : Motion) (approach : Approach) (response : Response) (sense : Sense) (strength : Strength) → IsApproach m approach → pos 1 ≤ℤ response.step
    → floor_of strength ≤ℤ pos 0 → asked_rate sense Level m.own.rate ≡ m.own.rate → apart sense approach.own approach.target ≡ separation One m approach.halves response sense strength
separation-met m approach response sense strength is forward low meets =
    separation-kept One m approach response sense strength is (after-at-goal One m.own approach.halves response sense strength forward (meets-lower sense strength Level m.own.rate low meets))
