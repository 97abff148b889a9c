use Rattle.std.proofs.Common.{◌+◌, ◌≤◌, List, length, option_map, sym, ap, ◌∙◌, subst, arith}
use Rattle.acas_base.specs.declared.entry.Entry.{Entry}
use Rattle.air_journal.specs.EntryRefs.{entry_of}
use Rattle.air_journal.specs.States.{State}
use Rattle.deliveries.proofs.Befalling.{entry-of}
use Rattle.deliveries.proofs.Counting.{counts-more, few-more, few-up}
use Rattle.deliveries.proofs.Reading.{read-all, read-more, read-past}
use Rattle.deliveries.specs.Counts.{AreCounts, AreFew, WithOne, sends_one}
use Rattle.deliveries.specs.Mishaps.{befalls_sent}
use Rattle.deliveries.specs.Noted.{IsEntryOf, read_of}
use Rattle.deliveries.specs.declared.counts.Counts.{Counts}
use Rattle.deliveries.specs.declared.mishap.Mishap.{Mishap}
use Rattle.deliveries.proofs.counts.counts_of.Goals as goal
use Rattle.deliveries.proofs.counts.counts_of.Goals.{in-Some, in_default}

pub with_entry-counts-requires-clause-few : goal.with_entry-counts-requires-clause-few
with_entry-counts-requires-clause-few c =
    few-up c.loop-at.counts c.loop-at.at 4294967294 (let n = c.count-at-end.ensures.value in let t = c.loop-at-test.true in omega arith) c.loop-at.invariant.few

pub with_entry-counts-requires-clause-entry : goal.with_entry-counts-requires-clause-entry
with_entry-counts-requires-clause-entry c =
    let s = c.args.state.now in
    let is = sym c.entry_ref.ensures ∙ ap (option_map entry_of) c.in-Some.is in
    subst (λ (t : State). IsEntryOf t.encounter t.journal (entry_of c.in-Some.entry)) (sym c.requires)
    (entry-of s.encounter s.journal c.loop-at.at (entry_of c.in-Some.entry) c.legal_law.ensures.valid c.legal_law.ensures.legal is)

pub returns : goal.returns
returns c =
    let e = c.args.state.now.encounter in
    let J = c.args.state.now.journal in
    let end : length J ≤ c.loop-at.at = (let n = c.count-at-end.ensures.value in let t = c.loop-at-test.false in omega arith) in
    subst (λ (K : List Entry). AreCounts e J K c.loop-at.counts) (read-all J c.loop-at.at end) c.loop-at.invariant.value

pub loop-at-preserved : goal.loop-at-preserved
loop-at-preserved c =
    let e = c.args.state.now.encounter in
    let J = c.args.state.now.journal in
    let at = c.loop-at.at in
    let old = c.loop-at.counts in
    elim c.match-entry_ref.branch [
      | in-Some w ↦
          (let x = entry_of w.in-Some.entry in
          let new = w.with_entry-counts.result in
          let is = sym c.entry_ref.ensures ∙ ap (option_map entry_of) w.in-Some.is in
          let step = subst (λ (t : State). WithOne old new (sends_one x) (λ (mishap : Mishap). befalls_sent t.encounter t.journal mishap x)) c.requires w.with_entry-counts.ensures in
          let value = subst (λ (K : List Entry). AreCounts e J K new) (sym (read-more J at x is)) (counts-more e J (read_of J at) x old new c.loop-at.invariant.value step) in
          let few = few-more old new (sends_one x) (λ (mishap : Mishap). befalls_sent e J mishap x) at c.loop-at.invariant.few step in
          record {
            value = subst (λ (n : Counts). AreCounts e J (read_of J (at + 1)) n) (sym w.counts-is) value;
            few = subst (λ (n : Counts). AreFew n (at + 1)) (sym w.counts-is) few;
          })
      | in_default w ↦
          (let none = sym c.entry_ref.ensures ∙ ap (option_map entry_of) w.in_default.is in
          let past = read-past J at none in
          let stays = read-all J at past ∙ sym (read-all J (at + 1) (omega arith)) in
          record {
            value = subst (λ (n : Counts). AreCounts e J (read_of J (at + 1)) n) (sym w.counts-is) (subst (λ (K : List Entry). AreCounts e J K old) stays c.loop-at.invariant.value);
            few = subst (λ (n : Counts). AreFew n (at + 1)) (sym w.counts-is) (few-up old at (at + 1) (omega arith) c.loop-at.invariant.few);
          })
    ]
