use Rattle.std.proofs.Common.{◌≡◌, get_or, take, ◌∷◌, [], ◌++◌, ◌+◌}
use Rattle.acas_base.specs.declared.advisory.Cell.{Cell}
use Rattle.acas_base.specs.declared.advisory.Cell.TheVariants.{Clear}
use Rattle.advisory_report.proofs.Steps.{next-cells, with-clear, with-traffic, with-up, with-down}
use Rattle.advisory_report.proofs.composite.composite_over.Goals as goal
use Rattle.advisory_report.proofs.composite.composite_over.Goals.{in-Clear, in-Traffic, in-Ra+in-Up, in-Ra+in-Down}

pub loop-cell-preserved : goal.loop-cell-preserved
loop-cell-preserved c =
    let cells = c.args.cells.now in
    let i = c.loop-cell.cell-index in
    let next : (cell : Cell) → get_or cells i Clear ≡ cell → take (i + 1) cells ≡ take i cells ++ cell ∷ [] = λ cell e. next-cells cells i cell c.loop-cell-test.true e in
    elim c.match-cell.branch [
      | in-Clear w ↦ rw (w.traffic-is, w.up-is, w.down-is, next _ w.in-Clear.is) (with-clear c.loop-cell.invariant)
      | in-Traffic w ↦ rw (w.traffic-is, w.up-is, w.down-is, next _ w.in-Traffic.is) (with-traffic c.loop-cell.invariant)
      | in-Ra+in-Up w ↦ rw (w.traffic-is, w.up-is, w.down-is, next _ w.in-Ra.is) (with-up w.in-Ra.advisory w.with_advisory-up.result w.in-Up.is w.with_advisory-up.ensures c.loop-cell.invariant)
      | in-Ra+in-Down w ↦ rw (w.traffic-is, w.up-is, w.down-is, next _ w.in-Ra.is) (with-down w.in-Ra.advisory w.with_advisory-down.result w.in-Down.is w.with_advisory-down.ensures c.loop-cell.invariant)
    ]
