use Rattle.possibilities.proofs.RunAdded.{equal_below}
use Rattle.possibilities.specs.Shown.{AddsCycles}
use Rattle.possibilities.proofs.tables.Tables.add_cycles_from.Given as goal

-- Those with the aircraft so far are there.
abbrev pub invariant-loop-high : goal.invariant-loop-high
invariant-loop-high l = AddsCycles (equal_below l.run.journal l.low l.high) l.fn.self l.self
