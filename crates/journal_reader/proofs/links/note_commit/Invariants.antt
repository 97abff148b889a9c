use Rattle.journal_reader.proofs.Rows.{IsRowUpTo}
use Rattle.journal_reader.proofs.links.note_commit.Given as goal

-- The links to the others so far are those after the commit.
abbrev pub invariant-loop-other : goal.invariant-loop-other
invariant-loop-other l = IsRowUpTo l.fn.links l.links l.own l.cells l.at l.other
