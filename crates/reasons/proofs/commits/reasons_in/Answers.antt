use Rattle.std.proofs.Common.{◌∙◌, ◌-◌, ap, length, subst, sym}
use Rattle.air_journal.specs.EntryRefs.{entry_of}
use Rattle.air_journal.specs.Ranges.{IsEntry}
use Rattle.air_journal.specs.declared.entry_ref.EntryRef.{EntryRef}
use Rattle.reasons.proofs.Pairing.{count-rows}
use Rattle.reasons.specs.Reasons.{entry_reasons}
use Rattle.reasons.proofs.commits.reasons_in.Goals as goal

pub returns-in-Commit-clause-value : goal.returns-in-Commit-clause-value
returns-in-Commit-clause-value c = λ journal.
    let e = c.args.encounter.now in
    let within = subst (λ (x : EntryRef). IsEntry (length e.crafts) (entry_of x)) c.in-Commit.is c.requires in
    ap (λ xs. length xs - 1) c.crafts.ensures.value ∙ sym (count-rows e journal c.in-Commit.own c.in-Commit.cycle c.in-Commit.cells.now within.0)
    ∙ ap (λ (x : EntryRef). length (entry_reasons e journal (entry_of x))) (sym c.in-Commit.is)
