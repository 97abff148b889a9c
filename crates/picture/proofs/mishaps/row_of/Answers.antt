use Rattle.std.proofs.Common.{length, sym, ap, ◌∙◌, subst}
use Rattle.acas_base.specs.declared.entry.Entry.TheVariants as kinds
use Rattle.air_journal.specs.EntryRefs.{entry_of}
use Rattle.air_journal.specs.Ranges.{IsEntry}
use Rattle.air_journal.specs.declared.entry_ref.EntryRef.{EntryRef}
use Rattle.journal_reader.specs.Reading.{read_of}
use Rattle.picture.proofs.Befallen.{fits-at}
use Rattle.picture.specs.Mishaps.{row_of}
use Rattle.picture.proofs.mishaps.row_of.Goals as goal

pub row_from-requires-clause-sender : goal.row_from-requires-clause-sender
row_from-requires-clause-sender c =
    let d = c.args.deliveries.now in
    let fits = fits-at d c.state.result.now c.args.at (entry_of c.args.entry.now) c.state.ensures c.legal_law.ensures.valid c.legal_law.ensures.legal c.requires in
    let fit : IsEntry (length d.encounter.crafts) (kinds.Send c.in-Send.own c.in-Send.target c.in-Send.number c.in-Send.word) = subst (λ (r : EntryRef). IsEntry (length d.encounter.crafts) (entry_of r)) c.in-Send.is fits in
    fit.0

pub row_from-requires-clause-receiver : goal.row_from-requires-clause-receiver
row_from-requires-clause-receiver c =
    let d = c.args.deliveries.now in
    let fits = fits-at d c.state.result.now c.args.at (entry_of c.args.entry.now) c.state.ensures c.legal_law.ensures.valid c.legal_law.ensures.legal c.requires in
    let fit : IsEntry (length d.encounter.crafts) (kinds.Send c.in-Send.own c.in-Send.target c.in-Send.number c.in-Send.word) = subst (λ (r : EntryRef). IsEntry (length d.encounter.crafts) (entry_of r)) c.in-Send.is fits in
    fit.1

pub row_from-requires-clause-number : goal.row_from-requires-clause-number
row_from-requires-clause-number c =
    let d = c.args.deliveries.now in
    let fits = fits-at d c.state.result.now c.args.at (entry_of c.args.entry.now) c.state.ensures c.legal_law.ensures.valid c.legal_law.ensures.legal c.requires in
    let fit : IsEntry (length d.encounter.crafts) (kinds.Send c.in-Send.own c.in-Send.target c.in-Send.number c.in-Send.word) = subst (λ (r : EntryRef). IsEntry (length d.encounter.crafts) (entry_of r)) c.in-Send.is fits in
    fit.2.0

pub returns-in-Send-clause-value : goal.returns-in-Send-clause-value
returns-in-Send-clause-value c =
    let d = c.args.deliveries.now in
    c.row_from.ensures.value ∙ ap (λ (x : EntryRef). row_of d.encounter d.journal c.args.sign (read_of d.journal c.args.at) (entry_of x)) (sym c.in-Send.is)
