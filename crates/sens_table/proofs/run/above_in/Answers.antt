use Rattle.std.proofs.Common.{◌≡◌, ◌∙◌, ap, arith}
use Rattle.sens_table.specs.Run.{above_in}
use Rattle.sens_table.proofs.run.above_in.Goals as goal

pub loop-before-init : goal.loop-before-init
loop-before-init c = c.none-above.ensures c.args.encounter.now.profile c.args.encounter.now.elevation

pub returns : goal.returns
returns c =
    let all : c.loop-before.before ≡ c.args.cycle = (let t = c.loop-before-test.false in let high = c.loop-before.auto.before-end in omega arith) in
    c.loop-before.invariant ∙ ap (above_in c.args.encounter.now c.args.craft) all
