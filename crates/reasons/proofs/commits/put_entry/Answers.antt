use Rattle.std.proofs.Common.{◌∷◌, subst}
use Rattle.air_journal.specs.Airs.{air_of}
use Rattle.air_journal.specs.EntryRefs.{entry_of}
use Rattle.air_journal.specs.declared.entry_ref.EntryRef.{EntryRef}
use Rattle.air_rules.proofs.Legal.{allowed}
use Rattle.air_rules.specs.Rules.{IsLegal, MayCommit}
use Rattle.reasons.proofs.commits.put_entry.Goals as goal

pub put_by-requires-clause-next : goal.put_by-requires-clause-next
put_by-requires-clause-next g c =
    let air = air_of c.args.reader.now.encounter in
    let read = c.args.reader.now.read in
    let may : MayCommit air read c.in-Commit.own c.in-Commit.cycle c.in-Commit.cells.now = allowed (subst (λ (x : EntryRef). IsLegal air (entry_of x ∷ read)) c.in-Commit.is c.requires.legal) in
    may.cycle_is
