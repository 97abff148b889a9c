use Rattle.std.proofs.Common.{◌≡◌, ◌<◌, false, true, sym, ap, ◌∙◌, arith}
use Rattle.acas_base.specs.Encounter.{Parts}
use Rattle.summary.specs.Stretches.{is_kept}
use Rattle.summary.proofs.Lasting.{lasts-on, lasts-stop}
use Rattle.summary.proofs.stretches.last_of.Goals as goal

pub returns-then-not-is_kept-clause-value : goal.returns-then-not-is_kept-clause-value
returns-then-not-is_kept-clause-value c =
    let e = c.args.state.now.encounter in
    let f = is_kept c.args.state.now.journal c.args.own c.args.other in
    let run = c.cycles-cycle-end.ensures.value ∙ ap (λ (p : Parts). p.cycles) c.enc.ensures in
    let within : c.loop-cycle.cycle < e.cycles = omega (arith, run, c.loop-cycle-test.true) in
    let unmet : f c.loop-cycle.cycle ≡ false = sym c.is_kept.ensures ∙ c.if-not-is_kept.true in
    sym (c.loop-cycle.invariant ∙ lasts-stop f c.loop-cycle.cycle e.cycles within unmet)

pub loop-cycle-preserved : goal.loop-cycle-preserved
loop-cycle-preserved c =
    let e = c.args.state.now.encounter in
    let f = is_kept c.args.state.now.journal c.args.own c.args.other in
    let run = c.cycles-cycle-end.ensures.value ∙ ap (λ (p : Parts). p.cycles) c.enc.ensures in
    let within : c.loop-cycle.cycle < e.cycles = omega (arith, run, c.loop-cycle-test.true) in
    let met : f c.loop-cycle.cycle ≡ true = sym c.is_kept.ensures ∙ c.if-not-is_kept.false in
    c.loop-cycle.invariant ∙ lasts-on f c.loop-cycle.cycle e.cycles within met
