use Rattle.possibilities.proofs.RunAdded.{equal_from}
use Rattle.possibilities.specs.Shown.{AddsCycles}
use Rattle.possibilities.proofs.tables.Tables.add_all_cycles.Given as goal

-- Those of the aircraft so far are there.
abbrev pub invariant-loop-low : goal.invariant-loop-low
invariant-loop-low l = AddsCycles (equal_from l.run.journal l.low) l.fn.self l.self
