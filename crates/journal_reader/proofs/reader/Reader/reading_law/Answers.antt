use Rattle.std.proofs.Common.{subst}
use Rattle.air_journal.specs.Airs.{air_of}
use Rattle.air_rules.proofs.Legal.{legal-begins}
use Rattle.air_rules.specs.Journal.{Begins}
use Rattle.air_rules.specs.Rules.{IsLegal}
use Rattle.journal_reader.proofs.Prefixes.{read-begins}
use Rattle.journal_reader.specs.Reading.{Reading}
use Rattle.journal_reader.proofs.reader.Reader.reading_law.Goals as goal

pub returns-clause-begins : goal.returns-clause-begins
returns-clause-begins c = subst (λ (r : Reading). Begins r.read r.journal) c.self.view_is (read-begins c.self.inside.state.now.journal c.self.inside.at c.self.invariant.within)

pub returns-clause-read : goal.returns-clause-read
returns-clause-read c =
    subst (λ (r : Reading). IsLegal (air_of r.encounter) r.read) c.self.view_is
    (legal-begins (air_of c.self.inside.state.now.encounter) (read-begins c.self.inside.state.now.journal c.self.inside.at c.self.invariant.within) c.legal_law.ensures.legal)
