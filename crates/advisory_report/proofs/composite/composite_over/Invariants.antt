use Rattle.std.proofs.Common.{take}
use Rattle.advisory_report.proofs.Steps.{IsSummary}
use Rattle.advisory_report.proofs.composite.composite_over.Given as goal

-- Traffic and the advice of both senses are those of the cells so far.
abbrev pub invariant-loop-cell : goal.invariant-loop-cell
invariant-loop-cell l = IsSummary (take l.cell-index l.cells) l.traffic l.up l.down
