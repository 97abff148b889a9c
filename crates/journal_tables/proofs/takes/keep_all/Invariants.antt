use Rattle.std.proofs.Common.{◌≡◌, ◌-◌, length}
use Rattle.air_rules.specs.Journal.{Begins}
use Rattle.journal_tables.specs.Kept.{AreTakes}
use Rattle.journal_tables.proofs.takes.keep_all.Given as goal

-- The takes by the entries so far are kept.
abbrev pub invariant-loop-entry : goal.invariant-loop-entry
invariant-loop-entry l = record {
  encounter : l.reader.encounter ≡ l.state.encounter;
  journal : l.reader.journal ≡ l.state.journal;
  begins : Begins l.reader.read l.state.journal;
  takes : AreTakes l.state l.reader.read l.takes.items;
}

abbrev pub decreases-loop-entry : goal.decreases-loop-entry
decreases-loop-entry l = length l.state.journal - length l.reader.read
