use Rattle.std.proofs.Common.{◌≡◌, ℕ, Bool, ◌+◌, ◌<◌, false, true, sym, ap, ◌∙◌, arith}
use Rattle.acas_base.specs.Encounter.{Parts}
use Rattle.summary.specs.Pairs.{is_equal}
use Rattle.summary.proofs.Lasting.{lasts-on, lasts-stop}
use Rattle.summary.proofs.equal.last_equal.Goals as goal

pub returns-then-not-is_equal : goal.returns-then-not-is_equal
returns-then-not-is_equal c =
    let e = c.args.state.now.encounter in
    let f : ℕ → Bool = λ cycle. is_equal c.args.state.now.journal c.args.a c.args.b (cycle + 1) in
    let run = c.cycles-cycle-end.ensures.value ∙ ap (λ (p : Parts). p.cycles) c.enc.ensures in
    let within : c.loop-cycle.cycle < e.cycles = omega (arith, run, c.loop-cycle-test.true) in
    let unmet : f c.loop-cycle.cycle ≡ false = sym c.is_equal.ensures ∙ c.if-not-is_equal.true in
    sym (c.loop-cycle.invariant ∙ lasts-stop f c.loop-cycle.cycle e.cycles within unmet)

pub loop-cycle-preserved : goal.loop-cycle-preserved
loop-cycle-preserved c =
    let e = c.args.state.now.encounter in
    let f : ℕ → Bool = λ cycle. is_equal c.args.state.now.journal c.args.a c.args.b (cycle + 1) in
    let run = c.cycles-cycle-end.ensures.value ∙ ap (λ (p : Parts). p.cycles) c.enc.ensures in
    let within : c.loop-cycle.cycle < e.cycles = omega (arith, run, c.loop-cycle-test.true) in
    let met : f c.loop-cycle.cycle ≡ true = sym c.is_equal.ensures ∙ c.if-not-is_equal.false in
    c.loop-cycle.invariant ∙ lasts-on f c.loop-cycle.cycle e.cycles within met
