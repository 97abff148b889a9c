use Rattle.std.proofs.Common.{◌≡◌, ◌-◌, sym, ap, ◌∙◌, arith}
use Rattle.seconds_panel.proofs.Placing.{nothing-goes}
use Rattle.seconds_panel.specs.Seconds.{goes_on}
use Rattle.seconds_panel.proofs.rows.comes_on.Goals as goal

pub returns-then-cycle-eq1 : goal.returns-then-cycle-eq1
returns-then-cycle-eq1 c =
    let run = c.args.seconds.now in
    let none : c.args.cycle - 1 ≡ 0 = omega (arith, c.if-cycle-eq1.true) in
    sym (ap (goes_on run.encounter run.pair c.args.series) none ∙ nothing-goes run.encounter run.pair c.args.series)
