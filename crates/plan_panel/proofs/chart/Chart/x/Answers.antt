use Rattle.std.proofs.Common.{rules, arith, w64}
use Rattle.std.proofs.lemmas.Int.{to_z-of_z}
use Rattle.plan_panel.proofs.Placing.{in-box, x-of}
use Rattle.plan_panel.proofs.chart.Chart.x.Goals as goal

pub returns-clause-left : goal.returns-clause-left
returns-clause-left c =
    let it = c.args.self in
    let e = it.encounter.now in
    let run = it.run in
    let last = c.requires.last in
    let is = in-box it.top e c.args.own c.args.cycle c.requires.own c.requires.first (omega (arith, run, last)) in
    let end = is.left in
    let value = rw (to_z-of_z w64 c.position.result.x (search rules)) at c.placed.ensures.value in
    let same = x-of e c.args.own c.args.cycle c.placed.result it.view c.position.result value it.view_is c.position.ensures.value in
    omega (arith, same, end)

pub returns-clause-right : goal.returns-clause-right
returns-clause-right c =
    let it = c.args.self in
    let e = it.encounter.now in
    let run = it.run in
    let last = c.requires.last in
    let is = in-box it.top e c.args.own c.args.cycle c.requires.own c.requires.first (omega (arith, run, last)) in
    let end = is.right in
    let value = rw (to_z-of_z w64 c.position.result.x (search rules)) at c.placed.ensures.value in
    let same = x-of e c.args.own c.args.cycle c.placed.result it.view c.position.result value it.view_is c.position.ensures.value in
    omega (arith, same, end)
