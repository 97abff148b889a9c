-- The first strength of an ordered list that passes a test.
use Rattle.std.proofs.Common.{◌≡◌, ◌⊎◌, inl, inr, refl, ℕ, ◌<◌, ◌≤◌, Bool, true, false, cond, IsTrue, ◌&&◌, Option, Some, None, arith, rules, subst, sym, ◌∙◌, true≢false, leb→le}
use Rattle.std.specs.Prelude.{find, unwrap_or, not}
use Rattle.acas_base.specs.Strengths.{place_of, weakest_first, is_allowed, is_at_most}
use Rattle.acas_base.specs.Choice.{strongest, least_strength, gives_alim, weakens, strength_after, choice_after, reaches_both, least_of_both}
use Rattle.acas_base.specs.declared.advisory.Intent.{Intent}
use Rattle.acas_base.specs.declared.advisory.Sense.{Sense}
use Rattle.acas_base.specs.declared.advisory.Strength.{Strength}
use Rattle.acas_base.specs.declared.advisory.Strength.TheVariants.{Limit2000, Limit1000, Limit500, Level, Positive, Increase}
use Rattle.acas_base.specs.declared.choice.Choice.{Choice}
use Rattle.acas_base.specs.declared.view.View.{View}
use Rattle.strength_pick.specs.Extremes.{IsWeakest, IsAllowed, IsStrongestAllowed, IsWeakestOrStrongest, Serves, IsLeast, Reaches, IsNext}

abbrev Passes : (Strength → Bool) → Strength → Type 0
Passes test strength = IsTrue (test strength)

passes : {b : Bool} → b ≡ true → IsTrue b
passes e = e

fails : {b : Bool} → b ≡ false → ¬ IsTrue b
fails e t = true≢false (sym t ∙ e)

-- What fails at each place below n passes nowhere below n.
none-below : (test : Strength → Bool) (n : ℕ) → (0 < n → test Limit2000 ≡ false) → (1 < n → test Limit1000 ≡ false) → (2 < n → test Limit500 ≡ false) → (3 < n → test Level ≡ false) → (4 < n → test Positive ≡ false) → (5 < n → test Increase ≡ false) →
    (other : Strength) → place_of other < n → ¬ Passes test other
none-below test n a b d e f g Limit2000 h = fails (a h)
none-below test n a b d e f g Limit1000 h = fails (b h)
none-below test n a b d e f g Limit500 h = fails (d h)
none-below test n a b d e f g Level h = fails (e h)
none-below test n a b d e f g Positive h = fails (f h)
none-below test n a b d e f g Increase h = fails (g h)

-- The first that passes, weakest first.
abbrev Found : (Strength → Bool) → Strength → Strength → Type 0
Found test otherwise found = IsWeakest (Passes test) found ⊎ (((other : Strength) → ¬ Passes test other) × (found ≡ otherwise))

by-answers : (test : Strength → Bool) (otherwise : Strength) (a b d e f g : Bool) → test Limit2000 ≡ a → test Limit1000 ≡ b → test Limit500 ≡ d → test Level ≡ e → test Positive ≡ f → test Increase ≡ g →
    Found test otherwise (unwrap_or (cond a (Some Limit2000) (cond b (Some Limit1000) (cond d (Some Limit500) (cond e (Some Level) (cond f (Some Positive) (cond g (Some Increase) None)))))) otherwise)
by-answers test o true b d e f g ha hb hd he hf hg = inl (passes ha, none-below test 0 (λ h. absurd (omega arith)) (λ h. absurd (omega arith)) (λ h. absurd (omega arith)) (λ h. absurd (omega arith)) (λ h. absurd (omega arith)) (λ h. absurd (omega arith)))
by-answers test o false true d e f g ha hb hd he hf hg = inl (passes hb, none-below test 1 (λ h. ha) (λ h. absurd (omega arith)) (λ h. absurd (omega arith)) (λ h. absurd (omega arith)) (λ h. absurd (omega arith)) (λ h. absurd (omega arith)))
by-answers test o false false true e f g ha hb hd he hf hg = inl (passes hd, none-below test 2 (λ h. ha) (λ h. hb) (λ h. absurd (omega arith)) (λ h. absurd (omega arith)) (λ h. absurd (omega arith)) (λ h. absurd (omega arith)))
by-answers test o false false false true f g ha hb hd he hf hg = inl (passes he, none-below test 3 (λ h. ha) (λ h. hb) (λ h. hd) (λ h. absurd (omega arith)) (λ h. absurd (omega arith)) (λ h. absurd (omega arith)))
by-answers test o false false false false true g ha hb hd he hf hg = inl (passes hf, none-below test 4 (λ h. ha) (λ h. hb) (λ h. hd) (λ h. he) (λ h. absurd (omega arith)) (λ h. absurd (omega arith)))
by-answers test o false false false false false true ha hb hd he hf hg = inl (passes hg, none-below test 5 (λ h. ha) (λ h. hb) (λ h. hd) (λ h. he) (λ h. hf) (λ h. absurd (omega arith)))
by-answers test o false false false false false false ha hb hd he hf hg = inr ((λ other. none-below test 6 (λ h. ha) (λ h. hb) (λ h. hd) (λ h. he) (λ h. hf) (λ h. hg) other (below_six other)), refl)
  where
    below_six : (other : Strength) → place_of other < 6
    below_six Limit2000 = omega arith
    below_six Limit1000 = omega arith
    below_six Limit500 = omega arith
    below_six Level = omega arith
    below_six Positive = omega arith
    below_six Increase = omega arith

pub weakest-found : (test : Strength → Bool) (otherwise : Strength) → Found test otherwise (unwrap_or (find test weakest_first) otherwise)
weakest-found test otherwise = by-answers test otherwise (test Limit2000) (test Limit1000) (test Limit500) (test Level) (test Positive) (test Increase) refl refl refl refl refl refl

-- The strongest that a choice may take.
by-two : (view : View) (sense : Sense) (choice : Choice) (f g : Bool) → is_allowed view sense Positive choice ≡ f → is_allowed view sense Increase choice ≡ g →
    IsStrongestAllowed view sense choice (cond g Increase (cond f Positive Level))
by-two view sense choice f true hf hg = (passes hg, λ other h. absurd (above other h))
  where
    above : (other : Strength) → 5 < place_of other → ⊥
    above Limit2000 h = omega arith
    above Limit1000 h = omega arith
    above Limit500 h = omega arith
    above Level h = omega arith
    above Positive h = omega arith
    above Increase h = omega arith
by-two view sense choice true false hf hg = (passes hf, above)
  where
    above : (other : Strength) → 4 < place_of other → ¬ IsAllowed view sense choice other
    above Limit2000 h = absurd (omega arith)
    above Limit1000 h = absurd (omega arith)
    above Limit500 h = absurd (omega arith)
    above Level h = absurd (omega arith)
    above Positive h = absurd (omega arith)
    above Increase h = fails hg
by-two view sense choice false false hf hg = (refl, above)
  where
    above : (other : Strength) → 3 < place_of other → ¬ IsAllowed view sense choice other
    above Limit2000 h = absurd (omega arith)
    above Limit1000 h = absurd (omega arith)
    above Limit500 h = absurd (omega arith)
    above Level h = absurd (omega arith)
    above Positive h = fails hf
    above Increase h = fails hg

computed : (f g : Bool) (rest : Option Strength) → unwrap_or (cond g (Some Increase) (cond f (Some Positive) (Some Level))) Level ≡ cond g Increase (cond f Positive Level)
computed f true rest = refl
computed true false rest = refl
computed false false rest = refl

pub strongest-found : (view : View) (sense : Sense) (choice : Choice) → IsStrongestAllowed view sense choice (strongest view sense choice)
strongest-found view sense choice =
    let f = is_allowed view sense Positive choice in let g = is_allowed view sense Increase choice in
    subst (IsStrongestAllowed view sense choice) (sym (computed f g None)) (by-two view sense choice f g refl refl)

-- a test of two parts.
both : (a b : Bool) → IsTrue (a && b) → IsTrue a × IsTrue b
both true b t = (refl, t)
both false b t = absurd (fails refl t)

joined : (a b : Bool) → IsTrue a → IsTrue b → IsTrue (a && b)
joined true b t u = u
joined false b t u = absurd (fails refl t)

-- a kind that a test tells.
of-kind : (Is : Strength → Type 0) (test : Strength → Bool) (view : View) (sense : Sense) (choice : Choice) (found : Strength) →
    ((s : Strength) → IsTrue (test s) → Is s) → ((s : Strength) → Is s → IsTrue (test s)) → Found test (strongest view sense choice) found → IsWeakestOrStrongest Is view sense choice found
of-kind Is test view sense choice found to from (inl w) = inl (to found w.0, λ other h is. w.1 other h (from other is))
of-kind Is test view sense choice found to from (inr n) = inr ((λ other is. n.0 other (from other is)), subst (IsStrongestAllowed view sense choice) (sym n.1) (strongest-found view sense choice))

pub least-found : (view : View) (sense : Sense) (choice : Choice) → IsLeast view sense choice (least_strength view sense choice)
least-found view sense choice =
    let test = λ (s : Strength). is_allowed view sense s choice && gives_alim view sense s choice in
    of-kind (Serves view sense choice) test view sense choice _ (λ s t. both _ _ t) (λ s is. joined _ _ is.0 is.1) (weakest-found test (strongest view sense choice))

at-most : (one two : Strength) → IsTrue (is_at_most one two) → place_of one ≤ place_of two
at-most one two t = leb→le (place_of one) (place_of two) (search (rules, t))

at-most-told : (one two : Strength) → place_of one ≤ place_of two → IsTrue (is_at_most one two)
at-most-told one two h = search (rules, h)

reached : (view : View) (sense : Sense) (choice : Choice) (one two s : Strength) → IsTrue (reaches_both view sense choice one two s) → Reaches view sense choice one two s
reached view sense choice one two s t =
    let a = both (is_allowed view sense s choice) (is_at_most one s && is_at_most two s) t in
    let b = both (is_at_most one s) (is_at_most two s) a.1 in
    (a.0, at-most one s b.0, at-most two s b.1)

reached-told : (view : View) (sense : Sense) (choice : Choice) (one two s : Strength) → Reaches view sense choice one two s → IsTrue (reaches_both view sense choice one two s)
reached-told view sense choice one two s is = joined _ _ is.0 (joined _ _ (at-most-told one s is.1) (at-most-told two s is.2))

both-found : (view : View) (sense : Sense) (choice : Choice) (one two : Strength) → IsWeakestOrStrongest (Reaches view sense choice one two) view sense choice (least_of_both view sense choice one two)
both-found view sense choice one two =
    of-kind (Reaches view sense choice one two) (reaches_both view sense choice one two) view sense choice _ (reached view sense choice one two) (reached-told view sense choice one two) (weakest-found (reaches_both view sense choice one two) (strongest view sense choice))

-- What a condition leaves.
otherwise : (b : Bool) (one two : Strength) → IsTrue (not b) → cond b one two ≡ two
otherwise true one two t = absurd (fails refl t)
otherwise false one two t = refl

indeed : (b : Bool) (one two : Strength) → IsTrue b → cond b one two ≡ one
indeed true one two t = refl
indeed false one two t = absurd (fails refl t)

pub weakened : (before : Intent) (view : View) → IsTrue (weakens before view) → strength_after before view ≡ Level
weakened before view h = indeed (weakens before view) Level _ h

pub next-found : (before : Intent) (view : View) → IsTrue (not (weakens before view)) → IsNext before view (strength_after before view)
next-found before view h =
    let choice = choice_after before view in let need = least_strength view before.sense choice in
    subst (IsNext before view) (sym (otherwise (weakens before view) Level (least_of_both view before.sense choice before.strength need) h)) (both-found view before.sense choice before.strength need)
