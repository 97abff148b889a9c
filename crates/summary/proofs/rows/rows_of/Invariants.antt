use Rattle.std.proofs.Common.{◌≡◌, ◌-◌, length}
use Rattle.air_journal.specs.Airs.{air_of}
use Rattle.air_rules.specs.Journal.{Begins}
use Rattle.summary.specs.Kept.{AreRows}
use Rattle.summary.proofs.rows.rows_of.Given as goal

-- The rows of the entries so far are kept.
abbrev pub invariant-loop-entry : goal.invariant-loop-entry
invariant-loop-entry l = record {
  encounter : l.reader.encounter ≡ l.state.encounter;
  journal : l.reader.journal ≡ l.state.journal;
  begins : Begins l.reader.read l.reader.journal;
  kept : AreRows (air_of l.reader.encounter) l.reader.read l.rows;
}

abbrev pub decreases-loop-entry : goal.decreases-loop-entry
decreases-loop-entry l = length l.reader.journal - length l.reader.read
