use Rattle.std.proofs.Common.{◌+◌, ◌<◌, arith, subst, sym}
use Rattle.possibilities.proofs.Rowless.{IsCounted, next-counted, none-counted}
use Rattle.possibilities.proofs.excluding.has_no_row.Goals as goal

pub loop-before-init : goal.loop-before-init
loop-before-init c = none-counted c.args.list.now c.args.cycles c.requires.some

pub loop-before-preserved : goal.loop-before-preserved
loop-before-preserved c =
    subst (IsCounted c.args.list.now c.args.cycles (c.loop-before.before + 1)) (sym c.row_after-row.ensures)
    (next-counted c.args.list.now c.args.cycles c.requires.some c.loop-before.before c.loop-before.row c.loop-before.invariant (subst (λ n. n < c.args.cycles) c.row_after-row.ensures c.if-cycles-row.false))

pub returns : goal.returns
returns c = λ _ last within. c.loop-before.invariant.none last (let test = c.loop-before-test.false in omega (arith, within, test))
