use Rattle.std.proofs.Common.{◌∙◌, ◌≡◌, ◌<◌, List, [], ◌∷◌, ℕ, ap, arith, length, reverse, sym, take}
use Rattle.std.specs.Prelude.{option_map}
use Rattle.std.proofs.lemmas.List.{length-reverse, length-take-le, take_all}
use Rattle.std.proofs.lemmas.Option.{slice_get-get_or}
use Rattle.acas_base.specs.declared.entry.Entry.{Entry}
use Rattle.air_journal.specs.EntryRefs.{entry_of}
use Rattle.rec_text.proofs.EntryCounting.{counts-all, counts-more, counts-reverse}
use Rattle.rec_text.specs.EntryCounts.{entry_counts, with_entry}
use Rattle.rec_text.specs.declared.counts.EntryCounts.{EntryCounts}
use Rattle.rec_text.proofs.counts.entry_counts.Goals as goal
use Rattle.rec_text.proofs.counts.entry_counts.Goals.{in-Some, in_default}

pub with_entry-counts-requires : goal.with_entry-counts-requires
with_entry-counts-requires c =
    let entries = reverse c.args.state.now.journal in
    let so_far = c.loop-at.invariant in
    let commits = ap (λ (k : EntryCounts). k.commits) so_far in
    let sends = ap (λ (k : EntryCounts). k.sends) so_far in
    let takes = ap (λ (k : EntryCounts). k.takes) so_far in
    let n = c.count-at-end.ensures.value in
    let t = c.loop-at-test.true in
    let small = c.count-at-end.type_inv in
    omega (arith, commits, sends, takes, counts-all (take c.loop-at.at entries), length-take-le c.loop-at.at entries (omega (arith, length-reverse c.args.state.now.journal)), length-reverse c.args.state.now.journal)

-- A list with a place has an entry.
first : {n : ℕ} (entries : List Entry) → n < length entries → Entry
first [] h = absurd (omega arith)
first (entry ∷ entries) h = entry

pub loop-at-preserved : goal.loop-at-preserved
loop-at-preserved c =
    let entries = reverse c.args.state.now.journal in
    let within : c.loop-at.at < length entries = (let n = c.count-at-end.ensures.value in let t = c.loop-at-test.true in omega (arith, length-reverse c.args.state.now.journal)) in
    elim c.match-entry_ref.branch [
      | in-Some w ↦
          (let entry = entry_of w.in-Some.entry in
          let is = sym c.entry_ref.ensures ∙ ap (option_map entry_of) w.in-Some.is in
          w.counts-is ∙ w.with_entry-counts.ensures ∙ ap (λ (k : EntryCounts). with_entry k entry) c.loop-at.invariant ∙ sym (counts-more entries c.loop-at.at entry is))
      | in_default w ↦
          absurd (let some = slice_get-get_or entries c.loop-at.at (first entries within) within in let none = sym c.entry_ref.ensures ∙ ap (option_map entry_of) w.in_default.is in cc)
    ]

pub returns : goal.returns
returns c =
    let entries = reverse c.args.state.now.journal in
    let whole : take c.loop-at.at entries ≡ entries = take_all c.loop-at.at entries (let n = c.count-at-end.ensures.value in let t = c.loop-at-test.false in omega (arith, length-reverse c.args.state.now.journal)) in
    c.loop-at.invariant ∙ ap entry_counts whole ∙ counts-reverse c.args.state.now.journal
