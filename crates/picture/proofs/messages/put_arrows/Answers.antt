use Rattle.std.proofs.Common.{◌≡◌, ◌∷◌, ◌++◌, List, Option, sym, ap, ◌∙◌, subst}
use Rattle.std.specs.Prelude.{MatchOption, option_to_list}
use Rattle.std.specs.List.{flat_map}
use Rattle.acas_base.specs.declared.entry.Entry.{Entry}
use Rattle.air_journal.specs.EntryRefs.{entry_of}
use Rattle.air_journal.specs.declared.entry_ref.EntryRef.{EntryRef}
use Rattle.air_rules.specs.Journal.{Begins}
use Rattle.picture.specs.Messages.{arrow_for, arrows_in}
use Rattle.picture.specs.MessagesDrawn.{arrow_marks}
use Rattle.picture.specs.declared.messages_read.Arrow.{Arrow}
use Rattle.picture.proofs.Messaging.{arrows-none, begins-next, marks-more, next-is, nothing-begins, reads-smaller}
use Rattle.picture.proofs.messages.put_arrows.Goals as goal

pub loop-entry-init : goal.loop-entry-init
loop-entry-init g c =
    let e = c.args.state.now.encounter in
    let J = c.args.state.now.journal in
    let read = c.new-reader.ensures.read in
    record {
      encounter = c.new-reader.ensures.encounter;
      journal = c.new-reader.ensures.journal;
      begins = subst (λ (K : List Entry). Begins K c.new-reader.result.journal) (sym read) (nothing-begins c.new-reader.result.journal);
      put = subst (g.D.Drawing.drew c.args.drawing.now c.args.drawing.now) (sym (ap (λ (K : List Entry). flat_map (arrow_marks e) (arrows_in e J K)) read ∙ ap (flat_map (arrow_marks e)) (arrows-none e J))) (g.met.D.Drawing.nothing c.args.drawing.now);
    }

pub taking_of-taking-requires-clause-next : goal.taking_of-taking-requires-clause-next
taking_of-taking-requires-clause-next g c =
    let old = c.loop-entry.reader in
    subst (λ (L : List Entry). Begins (entry_of c.in-Some.entry ∷ old.read) L) c.loop-entry.invariant.journal (begins-next old c.in-Some.entry c.peek.result c.in-Some.is c.peek.ensures.end)

pub loop-entry-smaller : goal.loop-entry-smaller
loop-entry-smaller g c =
    let old = c.loop-entry.reader in
    let x = entry_of c.in-Some.entry in
    let begins = subst (λ (L : List Entry). Begins (x ∷ old.read) L) c.loop-entry.invariant.journal (begins-next old c.in-Some.entry c.peek.result c.in-Some.is c.peek.ensures.end) in
    reads-smaller c.args.state.now.journal old.read c.next.new.self.read x begins
    (next-is old c.next.new.self c.in-Some.entry c.peek.result c.next.result c.in-Some.is c.peek.ensures.entry c.next.ensures.entry c.next.ensures.read)

pub loop-entry-preserved : goal.loop-entry-preserved
loop-entry-preserved g c =
    let e = c.args.state.now.encounter in
    let J = c.args.state.now.journal in
    let old = c.loop-entry.reader in
    let x = entry_of c.in-Some.entry in
    let marks = arrow_marks e in
    let begins = begins-next old c.in-Some.entry c.peek.result c.in-Some.is c.peek.ensures.end in
    let read : c.next.new.self.read ≡ x ∷ old.read = next-is old c.next.new.self c.in-Some.entry c.peek.result c.next.result c.in-Some.is c.peek.ensures.entry c.next.ensures.entry c.next.ensures.read in
    let arrow = ap (λ (K : List Entry). arrow_for e J K c.taking_of-taking.result) read ∙ ap (arrow_for e J (x ∷ old.read)) c.taking_of-taking.ensures.value in
    record {
      encounter = c.next.ensures.encounter ∙ c.loop-entry.invariant.encounter;
      journal = c.next.ensures.journal ∙ c.loop-entry.invariant.journal;
      begins = subst (λ (K : List Entry). Begins K c.next.new.self.journal) (sym read) (subst (λ (L : List Entry). Begins (x ∷ old.read) L) (sym c.next.ensures.journal) begins);
      put = subst (g.D.Drawing.drew c.args.drawing.now c.put_taken.new.drawing)
          (ap (λ (o : Option Arrow). flat_map marks (arrows_in e J old.read) ++ flat_map marks (option_to_list o)) arrow ∙ marks-more e J old.read x ∙ ap (λ (K : List Entry). flat_map marks (arrows_in e J K)) (sym read))
          (g.met.D.Drawing.then _ _ _ _ _ c.loop-entry.invariant.put c.put_taken.ensures);
    }

pub returns : goal.returns
returns g c =
    let e = c.args.state.now.encounter in
    let J = c.args.state.now.journal in
    let old = c.loop-entry.reader in
    let end = subst (λ (o : Option EntryRef). MatchOption o (old.read ≡ old.journal) (λ it. Begins (entry_of it ∷ old.read) old.journal)) c.in_default.is c.peek.ensures.end in
    subst (λ (K : List Entry). g.D.Drawing.drew c.args.drawing.now c.loop-entry.drawing (flat_map (arrow_marks e) (arrows_in e J K))) (end ∙ c.loop-entry.invariant.journal) c.loop-entry.invariant.put
