-- No choice is a limit that is stricter than the weakest one.
use Rattle.std.proofs.Common.{◌≡◌, refl, Bool, true, false, cond, ◌&&◌, Some, None, arith, rules, subst}
use Rattle.std.specs.Prelude.{ℤ, neg_ℤ, int_le, find, unwrap_or, ◌≤ℤ◌}
use Rattle.std.specs.Bool.{Decides}
use Rattle.std.proofs.lemmas.Int.{ints}
use Rattle.std.proofs.lemmas.Bool.{and_from, and_parts, cond_both}
use Rattle.acas_base.specs.Strengths.{floor_of, is_allowed, is_at_most, meets_floor, weakest_first}
use Rattle.acas_base.specs.Choice.{choice_after, gives_alim, least_of_both, least_strength, reaches_both, strength_after, strongest, weakens}
use Rattle.acas_base.specs.Limits.{LimitsAskForOwnRate, is_stricter_limit}
use Rattle.acas_base.specs.declared.advisory.Intent.{Intent}
use Rattle.acas_base.specs.declared.advisory.Sense.{Sense}
use Rattle.acas_base.specs.declared.advisory.Sense.TheVariants.{Down, Up}
use Rattle.acas_base.specs.declared.advisory.Strength.{Strength}
use Rattle.acas_base.specs.declared.advisory.Strength.TheVariants.{Limit2000, Limit1000, Limit500, Level, Positive, Increase}
use Rattle.acas_base.specs.declared.choice.Choice.{Choice}
use Rattle.acas_base.specs.declared.view.View.{View}

-- ---- the first of the strengths that passes a test

first : (a b d e f g : Bool) (o : Strength) → (b ≡ true → a ≡ true) → (d ≡ true → a ≡ true) → is_stricter_limit o ≡ false →
    is_stricter_limit (unwrap_or (cond a (Some Limit2000) (cond b (Some Limit1000) (cond d (Some Limit500) (cond e (Some Level) (cond f (Some Positive) (cond g (Some Increase) None)))))) o) ≡ false
first true b d e f g o hb hd ho = refl
first false true d e f g o hb hd ho = absurd (let z : false ≡ true = hb refl in cc)
first false false true e f g o hb hd ho = absurd (let z : false ≡ true = hd refl in cc)
first false false false true f g o hb hd ho = refl
first false false false false true g o hb hd ho = refl
first false false false false false true o hb hd ho = refl
first false false false false false false o hb hd ho = ho

first-found : (test : Strength → Bool) (o : Strength) → (test Limit1000 ≡ true → test Limit2000 ≡ true) → (test Limit500 ≡ true → test Limit2000 ≡ true) → is_stricter_limit o ≡ false →
    is_stricter_limit (unwrap_or (find test weakest_first) o) ≡ false
first-found test o = first (test Limit2000) (test Limit1000) (test Limit500) (test Level) (test Positive) (test Increase) o

-- ---- the strongest

of-two : (f g : Bool) → is_stricter_limit (unwrap_or (cond g (Some Increase) (cond f (Some Positive) (Some Level))) Level) ≡ false
of-two f true = refl
of-two true false = refl
of-two false false = refl

pub strongest-skips : (view : View) (sense : Sense) (choice : Choice) → is_stricter_limit (strongest view sense choice) ≡ false
strongest-skips view sense choice = of-two (is_allowed view sense Positive choice) (is_allowed view sense Increase choice)

-- ---- the least

le-tested : (a b : ℤ) → Decides (int_le a b) (a ≤ℤ b)
le-tested a b = search rules

-- Where own rate meets a stricter limit it meets the weakest one.
above : (a b c : ℤ) → a ≤ℤ b → int_le b c ≡ true → int_le a c ≡ true
above a b c h e = (le-tested a c).1 (let k : b ≤ℤ c = (le-tested b c).0 e in omega (arith, ints))

below : (a b c : ℤ) → b ≤ℤ c → int_le a b ≡ true → int_le a c ≡ true
below a b c h e = (le-tested a c).1 (let k : a ≤ℤ b = (le-tested a b).0 e in omega (arith, ints))

meets-weakest : (view : View) (sense : Sense) (limit : Strength) → is_stricter_limit limit ≡ true → meets_floor view sense limit ≡ true → meets_floor view sense Limit2000 ≡ true
meets-weakest view Up Limit2000 is e = e
meets-weakest view Up Limit1000 is e = above (floor_of Limit2000) (floor_of Limit1000) view.rate (omega (arith, ints)) e
meets-weakest view Up Limit500 is e = above (floor_of Limit2000) (floor_of Limit500) view.rate (omega (arith, ints)) e
meets-weakest view Up Level is e = absurd (cc)
meets-weakest view Up Positive is e = absurd (cc)
meets-weakest view Up Increase is e = absurd (cc)
meets-weakest view Down Limit2000 is e = e
meets-weakest view Down Limit1000 is e = below view.rate (neg_ℤ (floor_of Limit1000)) (neg_ℤ (floor_of Limit2000)) (omega (arith, ints)) e
meets-weakest view Down Limit500 is e = below view.rate (neg_ℤ (floor_of Limit500)) (neg_ℤ (floor_of Limit2000)) (omega (arith, ints)) e
meets-weakest view Down Level is e = absurd (cc)
meets-weakest view Down Positive is e = absurd (cc)
meets-weakest view Down Increase is e = absurd (cc)

serves-weakest : (view : View) (sense : Sense) (choice : Choice) (limit : Strength) → LimitsAskForOwnRate view → is_stricter_limit limit ≡ true → (meets_floor view sense limit && gives_alim view sense limit choice) ≡ true →
    (meets_floor view sense Limit2000 && gives_alim view sense Limit2000 choice) ≡ true
serves-weakest view sense choice limit alike is e =
    let parts = and_parts (meets_floor view sense limit) (gives_alim view sense limit choice) e in
    and_from _ _ (meets-weakest view sense limit is parts.0) (subst (λ (z : ℤ). int_le view.alim z ≡ true) (alike sense choice limit is parts.0) parts.1)

pub least-skips : (view : View) (sense : Sense) (choice : Choice) → LimitsAskForOwnRate view → is_stricter_limit (least_strength view sense choice) ≡ false
least-skips view sense choice alike =
    first-found (λ (s : Strength). is_allowed view sense s choice && gives_alim view sense s choice) (strongest view sense choice)
    (serves-weakest view sense choice Limit1000 alike refl) (serves-weakest view sense choice Limit500 alike refl) (strongest-skips view sense choice)

-- ---- the next

at-most-weakest : (one limit : Strength) → is_stricter_limit limit ≡ true → is_stricter_limit one ≡ false → is_at_most one limit ≡ true → is_at_most one Limit2000 ≡ true
at-most-weakest Limit2000 limit is not e = refl
at-most-weakest Limit1000 limit is not e = absurd (cc)
at-most-weakest Limit500 limit is not e = absurd (cc)
at-most-weakest Level Limit2000 is not e = absurd (cc)
at-most-weakest Level Limit1000 is not e = absurd (cc)
at-most-weakest Level Limit500 is not e = absurd (cc)
at-most-weakest Level Level is not e = absurd (cc)
at-most-weakest Level Positive is not e = absurd (cc)
at-most-weakest Level Increase is not e = absurd (cc)
at-most-weakest Positive Limit2000 is not e = absurd (cc)
at-most-weakest Positive Limit1000 is not e = absurd (cc)
at-most-weakest Positive Limit500 is not e = absurd (cc)
at-most-weakest Positive Level is not e = absurd (cc)
at-most-weakest Positive Positive is not e = absurd (cc)
at-most-weakest Positive Increase is not e = absurd (cc)
at-most-weakest Increase Limit2000 is not e = absurd (cc)
at-most-weakest Increase Limit1000 is not e = absurd (cc)
at-most-weakest Increase Limit500 is not e = absurd (cc)
at-most-weakest Increase Level is not e = absurd (cc)
at-most-weakest Increase Positive is not e = absurd (cc)
at-most-weakest Increase Increase is not e = absurd (cc)

reaches-weakest : (view : View) (sense : Sense) (one two limit : Strength) → is_stricter_limit limit ≡ true → is_stricter_limit one ≡ false → is_stricter_limit two ≡ false →
    (meets_floor view sense limit && (is_at_most one limit && is_at_most two limit)) ≡ true → (meets_floor view sense Limit2000 && (is_at_most one Limit2000 && is_at_most two Limit2000)) ≡ true
reaches-weakest view sense one two limit is first second e =
    let parts = and_parts (meets_floor view sense limit) (is_at_most one limit && is_at_most two limit) e in
    let both = and_parts (is_at_most one limit) (is_at_most two limit) parts.1 in
    and_from _ _ (meets-weakest view sense limit is parts.0) (and_from _ _ (at-most-weakest one limit is first both.0) (at-most-weakest two limit is second both.1))

pub next-skips : (before : Intent) (view : View) → LimitsAskForOwnRate view → is_stricter_limit before.strength ≡ false → is_stricter_limit (strength_after before view) ≡ false
next-skips before view alike not =
    let sense = before.sense in
    let choice = choice_after before view in
    let need = least_strength view sense choice in
    let needed : is_stricter_limit need ≡ false = least-skips view sense choice alike in
    cond_both (weakens before view) Level (least_of_both view sense choice before.strength need) (λ (s : Strength). is_stricter_limit s ≡ false) (λ _. refl)
    (λ _. first-found (reaches_both view sense choice before.strength need) (strongest view sense choice)
    (reaches-weakest view sense before.strength need Limit1000 refl not needed) (reaches-weakest view sense before.strength need Limit500 refl not needed) (strongest-skips view sense choice))
