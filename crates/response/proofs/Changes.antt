-- When the advice changed last.
use Rattle.std.proofs.Common.{◌≡◌, ℕ, suc, ◌-◌, ◌+◌, ◌≤◌, zero, true, false, not, sym, ap, ◌∙◌, subst, arith}
use Rattle.std.proofs.lemmas.Bool.{cond-false, cond-true, cond_both}
use Rattle.advisory_report.specs.declared.composite.Composite.{Composite}
use Rattle.response.specs.Flown.{Flight, changed, is_changed, advise_same}
use Rattle.response.specs.Flying.{IsAdvised}
use Rattle.response.specs.declared.advice.Advised.{Advised}

compared : (flight : Flight) (n : ℕ) → is_changed flight (suc n) ≡ not (advise_same (flight.shown n) (flight.shown (suc n)))
compared flight n = let back : suc n - 1 ≡ n = omega arith in ap (λ k. not (advise_same (flight.shown k) (flight.shown (suc n)))) back

changed-kept : (flight : Flight) (n : ℕ) → advise_same (flight.shown n) (flight.shown (suc n)) ≡ true → changed flight (suc n) ≡ changed flight n
changed-kept flight n same = cond-false (is_changed flight (suc n)) (suc n) (changed flight n) (compared flight n ∙ ap not same)

changed-now : (flight : Flight) (n : ℕ) → advise_same (flight.shown n) (flight.shown (suc n)) ≡ false → changed flight (suc n) ≡ suc n
changed-now flight n other = cond-true (is_changed flight (suc n)) (suc n) (changed flight n) (compared flight n ∙ ap not other)

-- It is no later than the cycle.
pub changed-before : (flight : Flight) (n : ℕ) → changed flight n ≤ n
changed-before flight zero = omega arith
changed-before flight (suc n) = cond_both (is_changed flight (suc n)) (suc n) (changed flight n) (λ k. k ≤ suc n) (λ _. omega arith) (λ _. let b = changed-before flight n in omega arith)

-- The next cycle advises the same, or something else.
pub advised-same : (flight : Flight) (n cycle : ℕ) (advised : Advised) (now : Composite) → advise_same advised.shown now ≡ true → IsAdvised flight n advised → cycle ≡ n + 1 → now ≡ flight.shown cycle
    → IsAdvised flight cycle (record { shown = now; changed = advised.changed; before = advised.before })
advised-same flight n cycle advised now same is next shows =
    let at : cycle ≡ suc n = omega arith in
    let shown : now ≡ flight.shown (suc n) = shows ∙ ap flight.shown at in
    let kept = changed-kept flight n (sym (ap (λ a. advise_same a (flight.shown (suc n))) is.shown) ∙ sym (ap (advise_same advised.shown) shown) ∙ same) in
    subst (λ k. IsAdvised flight k (record { shown = now; changed = advised.changed; before = advised.before })) (sym at)
    (record { shown = shown; changed_is = is.changed_is ∙ sym kept; before = is.before ∙ ap (λ k. flight.shown (k - 1)) (sym kept) })

pub advised-other : (flight : Flight) (n cycle : ℕ) (advised : Advised) (now : Composite) → advise_same advised.shown now ≡ false → IsAdvised flight n advised → cycle ≡ n + 1 → now ≡ flight.shown cycle
    → IsAdvised flight cycle (record { shown = now; changed = cycle; before = advised.shown })
advised-other flight n cycle advised now other is next shows =
    let at : cycle ≡ suc n = omega arith in
    let shown : now ≡ flight.shown (suc n) = shows ∙ ap flight.shown at in
    let new = changed-now flight n (sym (ap (λ a. advise_same a (flight.shown (suc n))) is.shown) ∙ sym (ap (advise_same advised.shown) shown) ∙ other) in
    let back : n ≡ changed flight (suc n) - 1 = omega (arith, new) in
    subst (λ k. IsAdvised flight k (record { shown = now; changed = cycle; before = advised.shown })) (sym at)
    (record { shown = shown; changed_is = at ∙ sym new; before = is.shown ∙ ap flight.shown back })
