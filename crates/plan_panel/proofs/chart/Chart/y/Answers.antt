use Rattle.std.proofs.Common.{rules, arith, w64}
use Rattle.std.proofs.lemmas.Int.{to_z-of_z}
use Rattle.plan_panel.proofs.Placing.{in-box, y-of}
use Rattle.plan_panel.proofs.chart.Chart.y.Goals as goal

pub returns-clause-above : goal.returns-clause-above
returns-clause-above c =
    let it = c.args.self in
    let e = it.encounter.now in
    let run = it.run in
    let last = c.requires.last in
    let is = in-box it.top e c.args.own c.args.cycle c.requires.own c.requires.first (omega (arith, run, last)) in
    let end = is.above in
    let value = rw (to_z-of_z w64 c.position.result.y (search rules)) at c.placed.ensures.value in
    let same = y-of it.top e c.args.own c.args.cycle c.placed.result it.view c.position.result value it.view_is c.position.ensures.value in
    omega (arith, same, end)

pub returns-clause-below : goal.returns-clause-below
returns-clause-below c =
    let it = c.args.self in
    let e = it.encounter.now in
    let run = it.run in
    let last = c.requires.last in
    let is = in-box it.top e c.args.own c.args.cycle c.requires.own c.requires.first (omega (arith, run, last)) in
    let end = is.below in
    let value = rw (to_z-of_z w64 c.position.result.y (search rules)) at c.placed.ensures.value in
    let same = y-of it.top e c.args.own c.args.cycle c.placed.result it.view c.position.result value it.view_is c.position.ensures.value in
    omega (arith, same, end)
