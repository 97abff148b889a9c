use Rattle.std.proofs.Common.{arith}
use Rattle.instances.proofs.InRow.{last-for, next-last, none-last}
use Rattle.instances.proofs.sought.has_row.Goals as goal

pub loop-before-init : goal.loop-before-init
loop-before-init c = none-last c.args.state.now.journal c.args.one c.args.other 0

pub row_after-row-requires : goal.row_after-row-requires
row_after-row-requires c =
    let few = c.loop-before.invariant.few in
    let test = c.loop-before-test.true in
    omega (arith, few, test)

pub loop-before-preserved : goal.loop-before-preserved
loop-before-preserved c = next-last c.args.state.now.journal c.args.one c.args.other c.loop-before.before c.loop-before.row c.row_after-row.result c.loop-before.invariant c.row_after-row.ensures

pub returns-then-cycles-row : goal.returns-then-cycles-row
returns-then-cycles-row c = λ _. last-for c.args.state.now.journal c.args.one c.args.other c.loop-before.before c.loop-before.row c.args.cycles c.loop-before.invariant c.if-cycles-row.true

pub returns-then-cycles-row-2 : goal.returns-then-cycles-row-2
returns-then-cycles-row-2 c = λ _. last-for c.args.state.now.journal c.args.one c.args.other c.loop-before.before c.loop-before.row c.args.cycles c.loop-before.invariant c.if-cycles-row-2.true
