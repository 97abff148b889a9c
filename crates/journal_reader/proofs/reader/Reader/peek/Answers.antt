use Rattle.std.proofs.Common.{◌≡◌, ◌∷◌, subst}
use Rattle.std.specs.Prelude.{MatchOption}
use Rattle.air_journal.specs.EntryRefs.{entry_of}
use Rattle.air_rules.specs.Journal.{Begins}
use Rattle.journal_reader.proofs.Prefixes.{comes-next}
use Rattle.journal_reader.specs.Reading.{Reading}
use Rattle.journal_reader.proofs.reader.Reader.peek.Goals as goal

pub returns-clause-end : goal.returns-clause-end
returns-clause-end c =
    subst (λ (r : Reading). MatchOption c.entry_ref.result (r.read ≡ r.journal) (λ entry. Begins (entry_of entry ∷ r.read) r.journal)) c.self.view_is
    (comes-next c.self.inside.state.now.journal c.self.inside.at c.entry_ref.result c.entry_ref.ensures)
