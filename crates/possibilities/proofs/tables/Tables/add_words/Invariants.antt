use Rattle.possibilities.proofs.RunAdded.{HasSaid}
use Rattle.possibilities.specs.Rows.{row_of}
use Rattle.possibilities.proofs.tables.Tables.add_words.Given as goal

-- The words of the cycles so far are in the row.
abbrev pub invariant-loop-made : goal.invariant-loop-made
invariant-loop-made l = HasSaid l.run.journal l.own l.made (row_of l.self.words l.own) l.row
