use Rattle.std.proofs.Common.{◌≡◌, ◌∙◌, List, ℕ, ap, length, subst, sym}
use Rattle.std.specs.Prelude.{option_map}
use Rattle.acas_base.specs.Encounter.{Parts}
use Rattle.acas_lines.specs.Split.{IsLine}
use Rattle.air_journal.proofs.Bounds.{few-crafts}
use Rattle.air_journal.proofs.WellFormed.{entries-fit}
use Rattle.air_journal.specs.EntryRefs.{entry_of}
use Rattle.air_journal.specs.Ranges.{IsEntry}
use Rattle.rec_audit.specs.Cursors.{TakesLine}
use Rattle.rec_text.proofs.HighBytes.{entry-is-line}
use Rattle.rec_text.proofs.Putting.{in-order}
use Rattle.rec_text.specs.Entries.{entry_line}
use Rattle.rec_audit.proofs.replay.take_entry_at.Goals as goal
use Rattle.rec_audit.proofs.replay.take_entry_at.Goals.{After-crafts, In-Some}

count : (c : After-crafts) → length c.crafts.result.now ≡ length c.args.state.now.encounter.crafts
count c = ap length (c.crafts.ensures.value ∙ ap (λ (e : Parts). e.crafts) c.enc.ensures)

fits : (c : In-Some) → IsEntry (length c.args.state.now.encounter.crafts) (entry_of c.in-Some.entry)
fits c =
    let e = c.args.state.now.encounter in
    let journal = c.args.state.now.journal in
    in-order (IsEntry (length e.crafts)) journal c.args.at (entry_of c.in-Some.entry) (entries-fit e journal c.legal_law.ensures.valid c.legal_law.ensures.legal) (sym c.entry_ref.ensures ∙ ap (option_map entry_of) c.in-Some.is)

pub set_entry_line-requires-clause-fits : goal.set_entry_line-requires-clause-fits
set_entry_line-requires-clause-fits c =
    let at = goal.at.set_entry_line-requires-clause-fits c in
    subst (λ n. IsEntry n (entry_of c.in-Some.entry)) (sym (count at.After-crafts)) (fits at.In-Some)

pub take_whole-requires : goal.take_whole-requires
take_whole-requires c =
    let e = c.args.state.now.encounter in
    let at = goal.at.take_whole-requires c in
    subst IsLine (sym (c.bytes.ensures.bytes ∙ c.set_entry_line.ensures ∙ ap (λ n. entry_line n (entry_of c.in-Some.entry)) (count at.After-crafts)))
    (entry-is-line (length e.crafts) (entry_of c.in-Some.entry) (few-crafts e c.legal_law.ensures.valid) (fits at.In-Some))

pub returns-in-Some : goal.returns-in-Some
returns-in-Some c = λ entry is.
    let same : entry_of c.in-Some.entry ≡ entry = (let both = sym (ap (option_map entry_of) c.in-Some.is) ∙ c.entry_ref.ensures ∙ is in cc) in
    subst (λ (l : List ℕ). TakesLine c.args.lines.now c.take_whole.new.self l c.take_whole.result)
    (c.bytes.ensures.bytes ∙ c.set_entry_line.ensures ∙ ap (λ n. entry_line n (entry_of c.in-Some.entry)) (count (goal.at.returns-in-Some c).After-crafts) ∙ ap (entry_line (length c.args.state.now.encounter.crafts)) same)
    c.take_whole.ensures

pub returns-in-None : goal.returns-in-None
returns-in-None c = λ entry is. absurd (let both = sym (ap (option_map entry_of) c.in-None.is) ∙ c.entry_ref.ensures ∙ is in cc)
