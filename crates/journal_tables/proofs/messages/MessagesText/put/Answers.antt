use Rattle.std.proofs.Common.{subst}
use Rattle.air_journal.specs.States.{State}
use Rattle.journal_tables.specs.Messages.{sent_lines}
use Rattle.journal_tables.proofs.messages.MessagesText.put.Goals as goal

pub returns : goal.returns
returns g c =
    let first = rw c.message_names.ensures at c.line.ensures in
    let rest = subst (λ (s : State). g.S.LineSink.took c.line.new.self c.put_sent.new.sink (sent_lines s.encounter s.journal s.journal)) c.self.view_is c.put_sent.ensures in
    g.met.S.LineSink.then _ _ _ _ _ first rest
