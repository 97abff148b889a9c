use Rattle.possibilities.proofs.RunAdded.{HasEqual}
use Rattle.possibilities.specs.Rows.{equal_of}
use Rattle.possibilities.proofs.tables.Tables.add_cycles.Given as goal

-- The cycles so far are in the list.
abbrev pub invariant-loop-made : goal.invariant-loop-made
invariant-loop-made l = HasEqual l.run.journal l.low l.high l.made (equal_of l.self.equal l.low l.high) l.list
