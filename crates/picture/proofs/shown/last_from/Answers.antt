use Rattle.std.proofs.Common.{◌≡◌, ◌<◌, false, true, sym, ap, ◌∙◌, arith}
use Rattle.acas_base.specs.Encounter.{Parts}
use Rattle.equal_rows.proofs.Lasting.{lasts-on, lasts-stop}
use Rattle.picture.specs.Shown.{goes_on}
use Rattle.picture.proofs.shown.last_from.Goals as goal

pub returns-then-not-goes_on-clause-value : goal.returns-then-not-goes_on-clause-value
returns-then-not-goes_on-clause-value c =
    let e = c.args.state.now.encounter in
    let f = goes_on c.args.state.now.journal c.args.own in
    let run = c.cycles-cycle-end.ensures.value ∙ ap (λ (p : Parts). p.cycles) c.enc.ensures in
    let within : c.loop-cycle.cycle < e.cycles = omega (arith, run, c.loop-cycle-test.true) in
    let unmet : f c.loop-cycle.cycle ≡ false = sym c.goes_on.ensures ∙ c.if-not-goes_on.true in
    sym (c.loop-cycle.invariant ∙ lasts-stop f c.loop-cycle.cycle e.cycles within unmet)

pub loop-cycle-preserved : goal.loop-cycle-preserved
loop-cycle-preserved c =
    let e = c.args.state.now.encounter in
    let f = goes_on c.args.state.now.journal c.args.own in
    let run = c.cycles-cycle-end.ensures.value ∙ ap (λ (p : Parts). p.cycles) c.enc.ensures in
    let within : c.loop-cycle.cycle < e.cycles = omega (arith, run, c.loop-cycle-test.true) in
    let met : f c.loop-cycle.cycle ≡ true = sym c.goes_on.ensures ∙ c.if-not-goes_on.false in
    c.loop-cycle.invariant ∙ lasts-on f c.loop-cycle.cycle e.cycles within met
