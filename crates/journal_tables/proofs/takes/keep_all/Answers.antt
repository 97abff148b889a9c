use Rattle.std.proofs.Common.{◌≡◌, ◌∷◌, List, Option, sym, ◌∙◌, subst}
use Rattle.std.specs.Prelude.{MatchOption}
use Rattle.acas_base.specs.declared.entry.Entry.{Entry}
use Rattle.air_journal.specs.EntryRefs.{entry_of}
use Rattle.air_journal.specs.declared.entry_ref.EntryRef.{EntryRef}
use Rattle.air_rules.specs.Journal.{Begins}
use Rattle.journal_tables.specs.Kept.{AreTakes}
use Rattle.journal_tables.proofs.Reading.{begins-next, nothing-begins, reads-smaller}
use Rattle.journal_tables.proofs.takes.keep_all.Goals as goal

pub loop-entry-init : goal.loop-entry-init
loop-entry-init c =
    let J = c.args.state.now.journal in
    let read = c.new-reader.ensures.read in
    record {
      encounter = c.new-reader.ensures.encounter;
      journal = c.new-reader.ensures.journal;
      begins = subst (λ (K : List Entry). Begins K J) (sym read) (nothing-begins J);
      takes = subst (λ (K : List Entry). AreTakes c.args.state.now K c.args.takes.now.items) (sym read) c.requires;
    }

pub keep_next-requires-clause-begins : goal.keep_next-requires-clause-begins
keep_next-requires-clause-begins c =
    let J = c.args.state.now.journal in
    let old = c.loop-entry.reader in
    subst (λ (L : List Entry). Begins (entry_of c.in-Some.entry ∷ old.read) L) c.loop-entry.invariant.journal (begins-next old c.in-Some.entry c.peek.result c.in-Some.is c.peek.ensures.end)

pub loop-entry-smaller : goal.loop-entry-smaller
loop-entry-smaller c =
    let J = c.args.state.now.journal in
    let old = c.loop-entry.reader in
    let begins = subst (λ (L : List Entry). Begins (entry_of c.in-Some.entry ∷ old.read) L) c.loop-entry.invariant.journal (begins-next old c.in-Some.entry c.peek.result c.in-Some.is c.peek.ensures.end) in
    reads-smaller J old.read c.keep_next.new.reader.read (entry_of c.in-Some.entry) begins c.keep_next.ensures.read

pub loop-entry-preserved : goal.loop-entry-preserved
loop-entry-preserved c =
    let state = c.args.state.now in
    let J = state.journal in
    let old = c.loop-entry.reader in
    let x = entry_of c.in-Some.entry in
    let begins = subst (λ (L : List Entry). Begins (x ∷ old.read) L) c.loop-entry.invariant.journal (begins-next old c.in-Some.entry c.peek.result c.in-Some.is c.peek.ensures.end) in
    let read = c.keep_next.ensures.read in
    record {
      encounter = c.keep_next.ensures.encounter ∙ c.loop-entry.invariant.encounter;
      journal = c.keep_next.ensures.journal ∙ c.loop-entry.invariant.journal;
      begins = subst (λ (K : List Entry). Begins K J) (sym read) begins;
      takes = subst (λ (K : List Entry). AreTakes state K c.keep_next.new.takes.items) (sym read) c.keep_next.ensures.takes;
    }

pub returns : goal.returns
returns c =
    let end = subst (λ (o : Option EntryRef). MatchOption o (c.loop-entry.reader.read ≡ c.loop-entry.reader.journal) (λ it. Begins (entry_of it ∷ c.loop-entry.reader.read) c.loop-entry.reader.journal)) c.in_default.is c.peek.ensures.end in
    subst (λ (K : List Entry). AreTakes c.args.state.now K c.loop-entry.takes.items) (end ∙ c.loop-entry.invariant.journal) c.loop-entry.invariant.takes
