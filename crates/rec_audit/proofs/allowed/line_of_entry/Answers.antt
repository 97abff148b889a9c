use Rattle.std.proofs.Common.{◌≡◌, ◌∙◌, ap, length, subst, sym}
use Rattle.std.specs.Prelude.{option_map}
use Rattle.acas_base.specs.Encounter.{Parts}
use Rattle.air_journal.proofs.WellFormed.{entries-fit}
use Rattle.air_journal.specs.EntryRefs.{entry_of}
use Rattle.air_journal.specs.Ranges.{IsEntry}
use Rattle.rec_text.proofs.Putting.{in-order}
use Rattle.rec_audit.proofs.allowed.line_of_entry.Goals as goal
use Rattle.rec_audit.proofs.allowed.line_of_entry.Goals.{After-crafts}

count : (c : After-crafts) → length c.crafts.result.now ≡ length c.args.state.now.encounter.crafts
count c = ap length (c.crafts.ensures.value ∙ ap (λ (e : Parts). e.crafts) c.enc.ensures)

pub set_entry_line-requires-clause-fits : goal.set_entry_line-requires-clause-fits
set_entry_line-requires-clause-fits c =
    let e = c.args.state.now.encounter in
    let journal = c.args.state.now.journal in
    let fits = in-order (IsEntry (length e.crafts)) journal c.args.at (entry_of c.in-Some.entry) (entries-fit e journal c.legal_law.ensures.valid c.legal_law.ensures.legal) (sym c.entry_ref.ensures ∙ ap (option_map entry_of) c.in-Some.is) in
    subst (λ n. IsEntry n (entry_of c.in-Some.entry)) (sym (count (goal.at.set_entry_line-requires-clause-fits c).After-crafts)) fits
