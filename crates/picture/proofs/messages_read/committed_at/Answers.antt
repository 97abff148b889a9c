use Rattle.std.proofs.Common.{option_map, sym, ap, ◌∙◌}
use Rattle.air_journal.specs.EntryRefs.{entry_of}
use Rattle.picture.proofs.Messaging.{commits-past, committed-at}
use Rattle.picture.proofs.messages_read.committed_at.Goals as goal

pub returns-in-Some : goal.returns-in-Some
returns-in-Some c =
    let here = sym c.entry_ref.ensures ∙ ap (option_map entry_of) c.in-Some.is in
    committed-at c.args.state.now.encounter c.args.state.now.journal c.args.own c.args.at (entry_of c.in-Some.entry) c.legal_law.ensures.valid c.legal_law.ensures.legal here c.committed_by.result c.committed_by.ensures

pub returns-in-None : goal.returns-in-None
returns-in-None c =
    let none = sym c.entry_ref.ensures ∙ ap (option_map entry_of) c.in-None.is in
    commits-past c.args.state.now.journal c.args.own c.args.at none
