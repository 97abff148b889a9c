use Rattle.std.proofs.Common.{length, subst}
use Rattle.acas_base.specs.declared.entry.Entry.TheVariants as kinds
use Rattle.air_journal.proofs.WellFormed.{entries-fit}
use Rattle.air_journal.specs.EntryRefs.{entry_of}
use Rattle.air_journal.specs.Ranges.{IsEntry}
use Rattle.air_journal.specs.declared.entry_ref.EntryRef.{EntryRef}
use Rattle.journal_reader.proofs.Prefixes.{holds-next}
use Rattle.picture.proofs.messages_read.taking_of.Goals as goal

pub taking_at-requires-clause-own : goal.taking_at-requires-clause-own
taking_at-requires-clause-own c =
    let e = c.args.state.now.encounter in
    let J = c.args.state.now.journal in
    let all = entries-fit e J c.legal_law.ensures.valid c.legal_law.ensures.legal in
    let fit : IsEntry (length e.crafts) (kinds.Take c.in-Take.own c.in-Take.send c.in-Take.copy c.in-Take.good) =
    subst (λ (r : EntryRef). IsEntry (length e.crafts) (entry_of r)) c.in-Take.is (holds-next (IsEntry (length e.crafts)) (entry_of c.args.entry.now) c.args.reader.now.read J c.requires.next all) in
    fit.0
