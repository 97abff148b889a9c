use Rattle.instances.proofs.InRow.{AreLast}
use Rattle.instances.proofs.sought.has_row.Given as goal

-- The cycles up to this one that follow each other.
abbrev pub invariant-loop-before : goal.invariant-loop-before
invariant-loop-before l = AreLast l.state.journal l.one l.other l.before l.row
