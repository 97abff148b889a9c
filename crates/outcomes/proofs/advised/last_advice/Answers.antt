use Rattle.std.proofs.Common.{◌≡◌, ℕ, Bool, ◌+◌, ◌-◌, ◌≤◌, true, false, sym, ap, ◌∙◌, Some, arith}
use Rattle.outcomes.specs.Advised.{advises_in, last_where}
use Rattle.outcomes.proofs.Finding.{last-before, last-now}
use Rattle.outcomes.proofs.advised.last_advice.Goals as goal

pub returns-then-advises_in : goal.returns-then-advises_in
returns-then-advises_in c =
    let p : ℕ → Bool = advises_in c.args.state.now.journal c.args.own in
    let cycles = c.args.state.now.encounter.cycles in
    let later = c.loop-later.later in
    let count = c.cycles-count.ensures.value in
    let here : c.cycles-count.result - later ≡ cycles - later = ap (λ n. n - later) count in
    let some : 1 ≤ cycles - later = omega (arith, count, c.loop-later-test.true) in
    let met : p (cycles - later) ≡ true = ap p (sym here) ∙ sym c.advises_in.ensures ∙ c.if-advises_in.true in
    sym (c.loop-later.invariant ∙ last-now p (cycles - later) some met ∙ ap Some (sym here))

pub loop-later-preserved : goal.loop-later-preserved
loop-later-preserved c =
    let p : ℕ → Bool = advises_in c.args.state.now.journal c.args.own in
    let cycles = c.args.state.now.encounter.cycles in
    let later = c.loop-later.later in
    let count = c.cycles-count.ensures.value in
    let here : c.cycles-count.result - later ≡ cycles - later = ap (λ n. n - later) count in
    let some : 1 ≤ cycles - later = omega (arith, count, c.loop-later-test.true) in
    let unmet : p (cycles - later) ≡ false = ap p (sym here) ∙ sym c.advises_in.ensures ∙ c.if-advises_in.false in
    let next : cycles - later - 1 ≡ cycles - (later + 1) = omega arith in
    c.loop-later.invariant ∙ last-before p (cycles - later) some unmet ∙ ap (last_where p) next

pub returns : goal.returns
returns c =
    let p : ℕ → Bool = advises_in c.args.state.now.journal c.args.own in
    let cycles = c.args.state.now.encounter.cycles in
    let none : cycles - c.loop-later.later ≡ 0 = omega (arith, c.cycles-count.ensures.value, c.loop-later-test.false) in
    sym (c.loop-later.invariant ∙ ap (last_where p) none)
