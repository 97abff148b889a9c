use Rattle.std.proofs.Common.{◌∙◌, ◌∷◌, [], ◌<◌, List, ℕ, ap, arith, length, map, reverse, subst, sym, take}
use Rattle.std.specs.Prelude.{option_map}
use Rattle.std.proofs.lemmas.List.{length-reverse}
use Rattle.std.proofs.lemmas.Option.{slice_get-get_or}
use Rattle.acas_base.specs.Encounter.{IsEncounter, Parts}
use Rattle.acas_base.specs.declared.entry.Entry.{Entry}
use Rattle.air_journal.proofs.WellFormed.{entries-fit}
use Rattle.air_journal.specs.EntryRefs.{entry_of}
use Rattle.air_journal.specs.Ranges.{IsEntry}
use Rattle.rec_text.proofs.Putting.{in-order, lines-more}
use Rattle.rec_text.specs.Entries.{entry_line}
use Rattle.rec_text.proofs.entries.put_entries.Goals as goal
use Rattle.rec_text.proofs.entries.put_entries.Goals.{in-Some, in_default}

pub set_entry_line-requires-clause-fits : goal.set_entry_line-requires-clause-fits
set_entry_line-requires-clause-fits g c =
    let e = c.args.state.now.encounter in
    let journal = c.args.state.now.journal in
    let crafts = c.crafts.ensures.value ∙ ap (λ (e : Parts). e.crafts) c.enc.ensures in
    let entry = entry_of c.in-Some.entry in
    let fit : IsEntry (length e.crafts) entry = in-order (IsEntry (length e.crafts)) journal c.loop-at.at entry (entries-fit e journal (subst IsEncounter c.enc.ensures c.crafts.ensures.valid) c.count-at-end.ensures.legal) (sym c.entry_ref.ensures ∙ ap (option_map entry_of) c.in-Some.is) in
    subst (λ n. IsEntry n entry) (ap length (sym crafts)) fit

-- A list with a place has an entry.
first : {n : ℕ} (entries : List Entry) → n < length entries → Entry
first [] h = absurd (omega arith)
first (entry ∷ entries) h = entry

pub loop-at-preserved : goal.loop-at-preserved
loop-at-preserved g c =
    let entries = reverse c.args.state.now.journal in
    let count = length c.crafts.result.now in
    let within : c.loop-at.at < length entries = (let n = c.count-at-end.ensures.value in let t = c.loop-at-test.true in omega (arith, length-reverse c.args.state.now.journal)) in
    elim c.match-entry_ref.branch [
      | in-Some w ↦
          (let entry = entry_of w.in-Some.entry in
          let put = g.met.S.LineSink.then _ _ _ (map (entry_line count) (take c.loop-at.at entries)) (entry_line count entry ∷ []) c.loop-at.invariant (rw w.set_entry_line.ensures at w.line.ensures) in
          rw (w.sink-is, lines-more count entries c.loop-at.at entry (sym c.entry_ref.ensures ∙ ap (option_map entry_of) w.in-Some.is)) put)
      | in_default w ↦
          absurd (let some = slice_get-get_or entries c.loop-at.at (first entries within) within in let none = sym c.entry_ref.ensures ∙ ap (option_map entry_of) w.in_default.is in cc)
    ]
