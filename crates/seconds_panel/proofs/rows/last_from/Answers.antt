use Rattle.std.proofs.Common.{◌≡◌, ◌<◌, false, true, sym, ◌∙◌, arith}
use Rattle.equal_rows.proofs.Lasting.{lasts-on, lasts-stop}
use Rattle.seconds_panel.specs.Seconds.{goes_on}
use Rattle.seconds_panel.proofs.rows.last_from.Goals as goal

pub returns-then-not-goes_on-clause-value : goal.returns-then-not-goes_on-clause-value
returns-then-not-goes_on-clause-value c =
    let run = c.args.seconds.now in
    let f = goes_on run.encounter run.pair c.args.series in
    let count = c.cycles-cycle-end.ensures.value in
    let within : c.loop-cycle.cycle < run.encounter.cycles = omega (arith, count, c.loop-cycle-test.true) in
    let unmet : f c.loop-cycle.cycle ≡ false = sym c.goes_on.ensures ∙ c.if-not-goes_on.true in
    sym (c.loop-cycle.invariant ∙ lasts-stop f c.loop-cycle.cycle run.encounter.cycles within unmet)

pub loop-cycle-preserved : goal.loop-cycle-preserved
loop-cycle-preserved c =
    let run = c.args.seconds.now in
    let f = goes_on run.encounter run.pair c.args.series in
    let count = c.cycles-cycle-end.ensures.value in
    let within : c.loop-cycle.cycle < run.encounter.cycles = omega (arith, count, c.loop-cycle-test.true) in
    let met : f c.loop-cycle.cycle ≡ true = sym c.goes_on.ensures ∙ c.if-not-goes_on.false in
    c.loop-cycle.invariant ∙ lasts-on f c.loop-cycle.cycle run.encounter.cycles within met
