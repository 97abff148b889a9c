use Rattle.air_rules.specs.Journal.{sent_at}
use Rattle.journal_reader.specs.Reading.{read_of}
use Rattle.comparison.specs.Messages.{AreTables}
use Rattle.comparison.proofs.messages.tables_of.Given as goal

-- The entries so far are noted.
abbrev pub invariant-loop-at : goal.invariant-loop-at
invariant-loop-at l = AreTables (sent_at l.state.journal) (read_of l.state.journal l.at) l.tables.words.items l.tables.results.items
