use Rattle.std.proofs.Common.{◌≡◌, ℕ, Bool, ◌<◌, sym, ap, ◌∙◌, arith}
use Rattle.std.specs.Prelude.{find}
use Rattle.std.specs.List.{range_with_len}
use Rattle.outcomes.specs.Advised.{advises_in}
use Rattle.outcomes.proofs.Finding.{found-now, none-yet}
use Rattle.outcomes.proofs.advised.first_advice.Goals as goal

pub returns-then-advises_in : goal.returns-then-advises_in
returns-then-advises_in c =
    let p : ℕ → Bool = advises_in c.args.state.now.journal c.args.own in
    let n = c.loop-earlier.earlier in
    let within : n < c.args.state.now.encounter.cycles = omega (arith, c.cycles-earlier-end.ensures.value, c.loop-earlier-test.true) in
    sym (found-now p n c.args.state.now.encounter.cycles c.loop-earlier.invariant (sym c.advises_in.ensures ∙ c.if-advises_in.true) within)

pub loop-earlier-preserved : goal.loop-earlier-preserved
loop-earlier-preserved c =
    let p : ℕ → Bool = advises_in c.args.state.now.journal c.args.own in
    none-yet p c.loop-earlier.earlier c.loop-earlier.invariant (sym c.advises_in.ensures ∙ c.if-advises_in.false)

pub returns : goal.returns
returns c =
    let p : ℕ → Bool = advises_in c.args.state.now.journal c.args.own in
    let all : c.loop-earlier.earlier ≡ c.args.state.now.encounter.cycles = omega (arith, c.cycles-earlier-end.ensures.value, c.loop-earlier-test.false) in
    sym (ap (λ n. find p (range_with_len 1 n)) (sym all) ∙ c.loop-earlier.invariant)
