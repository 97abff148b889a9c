use Rattle.std.proofs.Common.{◌∷◌, length, sym, subst, arith}
use Rattle.acas_base.specs.declared.entry.Entry.TheVariants as kinds
use Rattle.air_journal.proofs.Bounds.{few-crafts}
use Rattle.air_journal.proofs.WellFormed.{entries-fit}
use Rattle.air_journal.specs.Airs.{air_of}
use Rattle.air_journal.specs.EntryRefs.{entry_of}
use Rattle.air_journal.specs.Ranges.{IsEntry}
use Rattle.air_journal.specs.declared.entry_ref.EntryRef.{EntryRef}
use Rattle.journal_reader.proofs.Prefixes.{holds-next}
use Rattle.summary.specs.Kept.{AreRows}
use Rattle.summary.proofs.Rowing.{rows-send, rows-take}
use Rattle.summary.proofs.rows.note.Goals as goal
use Rattle.summary.proofs.rows.note.Goals.{In-Commit}

fit : (c : In-Commit) → IsEntry (length c.args.reader.now.encounter.crafts) (kinds.Commit c.in-Commit.own c.in-Commit.cycle c.in-Commit.cells.now)
fit c =
    let e = c.args.reader.now.encounter in
    let J = c.args.reader.now.journal in
    let all = entries-fit e J c.reading_law.ensures.valid c.reading_law.ensures.legal in
    subst (λ (r : EntryRef). IsEntry (length e.crafts) (entry_of r)) c.in-Commit.is (holds-next (IsEntry (length e.crafts)) (entry_of c.args.entry.now) c.args.reader.now.read J c.requires.next all)

pub note_commit-requires-clause-own : goal.note_commit-requires-clause-own
note_commit-requires-clause-own c =
    let d = (goal.at.note_commit-requires-clause-own c).In-Commit in
    let own = (fit d).0 in
    let few = few-crafts c.args.reader.now.encounter c.reading_law.ensures.valid in
    omega arith

pub note_commit-requires-clause-size : goal.note_commit-requires-clause-size
note_commit-requires-clause-size c = (fit (goal.at.note_commit-requires-clause-size c).In-Commit).2.size

pub returns-in-Send : goal.returns-in-Send
returns-in-Send c =
    let air = air_of c.args.reader.now.encounter in
    subst (λ (r : EntryRef). AreRows air (entry_of r ∷ c.args.reader.now.read) c.args.rows.now) (sym c.in-Send.is)
    (rows-send air c.args.reader.now.read c.in-Send.own c.in-Send.target c.in-Send.number c.in-Send.word c.args.rows.now c.requires.kept)

pub returns-in-Take : goal.returns-in-Take
returns-in-Take c =
    let air = air_of c.args.reader.now.encounter in
    subst (λ (r : EntryRef). AreRows air (entry_of r ∷ c.args.reader.now.read) c.args.rows.now) (sym c.in-Take.is)
    (rows-take air c.args.reader.now.read c.in-Take.own c.in-Take.send c.in-Take.copy c.in-Take.good c.args.rows.now c.requires.kept)
