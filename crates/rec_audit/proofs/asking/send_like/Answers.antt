use Rattle.air_journal.specs.Airs.{air_of}
use Rattle.rec_audit.proofs.Asked.{send-asked}
use Rattle.rec_audit.proofs.asking.send_like.Goals as goal

pub returns-in-Done-clause-asks : goal.returns-in-Done-clause-asks
returns-in-Done-clause-asks c =
    send-asked (air_of c.args.state.now.encounter) c.args.state.now.journal c.send.new.self.journal c.args.own c.args.target c.in-Done.position _ c.is_to.result c.in-Done.ensures.sends c.entry_ref.ensures c.is_to.ensures
