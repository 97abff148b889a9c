use Rattle.possibilities.proofs.Rowless.{IsCounted}
use Rattle.possibilities.proofs.excluding.has_no_row.Given as goal

-- The cycles so far have no such row.
abbrev pub invariant-loop-before : goal.invariant-loop-before
invariant-loop-before l = IsCounted l.list l.cycles l.before l.row
