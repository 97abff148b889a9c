use Rattle.std.proofs.Common.{length, ap, subst}
use Rattle.acas_base.specs.declared.entry.Entry.TheVariants as kinds
use Rattle.air_journal.proofs.WellFormed.{entries-fit}
use Rattle.air_journal.specs.EntryRefs.{entry_of}
use Rattle.air_journal.specs.Ranges.{IsEntry}
use Rattle.air_journal.specs.declared.entry_ref.EntryRef.{EntryRef}
use Rattle.air_rules.specs.Journal.{as_sent}
use Rattle.journal_reader.proofs.Prefixes.{holds-next}
use Rattle.journal_tables.proofs.Numbers.{sent-next}
use Rattle.journal_tables.proofs.messages.put_entry.Goals as goal

pub put_message-requires-clause-sender : goal.put_message-requires-clause-sender
put_message-requires-clause-sender g c =
    let e = c.args.state.now.encounter in
    let J = c.args.state.now.journal in
    let all = entries-fit e J c.legal_law.ensures.valid c.legal_law.ensures.legal in
    let fit : IsEntry (length e.crafts) (kinds.Send c.in-Send.own c.in-Send.target c.in-Send.number c.in-Send.word) =
    subst (λ (r : EntryRef). IsEntry (length e.crafts) (entry_of r)) c.in-Send.is (holds-next (IsEntry (length e.crafts)) (entry_of c.args.entry.now) c.args.reader.now.read J c.requires.next all) in
    fit.0

pub put_message-requires-clause-receiver : goal.put_message-requires-clause-receiver
put_message-requires-clause-receiver g c =
    let e = c.args.state.now.encounter in
    let J = c.args.state.now.journal in
    let all = entries-fit e J c.legal_law.ensures.valid c.legal_law.ensures.legal in
    let fit : IsEntry (length e.crafts) (kinds.Send c.in-Send.own c.in-Send.target c.in-Send.number c.in-Send.word) =
    subst (λ (r : EntryRef). IsEntry (length e.crafts) (entry_of r)) c.in-Send.is (holds-next (IsEntry (length e.crafts)) (entry_of c.args.entry.now) c.args.reader.now.read J c.requires.next all) in
    fit.1

pub put_message-requires-clause-number : goal.put_message-requires-clause-number
put_message-requires-clause-number g c =
    let e = c.args.state.now.encounter in
    let J = c.args.state.now.journal in
    let all = entries-fit e J c.legal_law.ensures.valid c.legal_law.ensures.legal in
    let fit : IsEntry (length e.crafts) (kinds.Send c.in-Send.own c.in-Send.target c.in-Send.number c.in-Send.word) =
    subst (λ (r : EntryRef). IsEntry (length e.crafts) (entry_of r)) c.in-Send.is (holds-next (IsEntry (length e.crafts)) (entry_of c.args.entry.now) c.args.reader.now.read J c.requires.next all) in
    fit.2.0

pub put_message-requires-clause-sent : goal.put_message-requires-clause-sent
put_message-requires-clause-sent g c =
    sent-next c.args.reader.now.read c.args.state.now.journal (entry_of c.args.entry.now) _ c.requires.next (ap (λ (r : EntryRef). as_sent (entry_of r)) c.in-Send.is)
