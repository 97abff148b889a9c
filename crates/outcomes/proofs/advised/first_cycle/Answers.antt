use Rattle.std.proofs.Common.{◌≡◌, ℕ, Bool, ◌<◌, length, sym, ap, ◌∙◌, arith}
use Rattle.std.specs.Prelude.{find}
use Rattle.std.specs.List.{range_with_len}
use Rattle.outcomes.specs.Advised.{some_has}
use Rattle.outcomes.proofs.Finding.{found-now, none-yet}
use Rattle.outcomes.proofs.advised.first_cycle.Goals as goal

pub returns-then-some_has : goal.returns-then-some_has
returns-then-some_has c =
    let p : ℕ → Bool = some_has c.args.state.now.journal (length c.args.state.now.encounter.crafts) in
    let n = c.loop-earlier.earlier in
    let within : n < c.args.state.now.encounter.cycles = omega (arith, c.cycles-earlier-end.ensures.value, c.loop-earlier-test.true) in
    sym (found-now p n c.args.state.now.encounter.cycles c.loop-earlier.invariant (sym c.some_has.ensures ∙ c.if-some_has.true) within)

pub loop-earlier-preserved : goal.loop-earlier-preserved
loop-earlier-preserved c =
    let p : ℕ → Bool = some_has c.args.state.now.journal (length c.args.state.now.encounter.crafts) in
    none-yet p c.loop-earlier.earlier c.loop-earlier.invariant (sym c.some_has.ensures ∙ c.if-some_has.false)

pub returns : goal.returns
returns c =
    let p : ℕ → Bool = some_has c.args.state.now.journal (length c.args.state.now.encounter.crafts) in
    let all : c.loop-earlier.earlier ≡ c.args.state.now.encounter.cycles = omega (arith, c.cycles-earlier-end.ensures.value, c.loop-earlier-test.false) in
    sym (ap (λ n. find p (range_with_len 1 n)) (sym all) ∙ c.loop-earlier.invariant)
