use Rattle.std.proofs.Common.{◌≡◌, ◌-◌, length}
use Rattle.air_rules.specs.Journal.{Begins}
use Rattle.journal_tables.specs.Messages.{sent_lines}
use Rattle.journal_tables.proofs.messages.put_sent.Given as goal

-- The lines of the messages so far were put.
abbrev pub invariant-loop-entry : goal.invariant-loop-entry
invariant-loop-entry g l = record {
  encounter : l.reader.encounter ≡ l.state.encounter;
  journal : l.reader.journal ≡ l.state.journal;
  begins : Begins l.reader.read l.reader.journal;
  put : g.S.LineSink.took l.fn.sink l.sink (sent_lines l.state.encounter l.state.journal l.reader.read);
}

abbrev pub decreases-loop-entry : goal.decreases-loop-entry
decreases-loop-entry g l = length l.reader.journal - length l.reader.read
