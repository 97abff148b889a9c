use Rattle.air_journal.specs.Airs.{air_of}
use Rattle.summary.proofs.Rowing.{AreUpTo}
use Rattle.summary.proofs.rows.note_commit.Given as goal

-- The rows against the others so far are those after the commit.
abbrev pub invariant-loop-other : goal.invariant-loop-other
invariant-loop-other l = AreUpTo (air_of l.reader.encounter) l.reader.read l.own l.cycle l.cells l.other l.rows
