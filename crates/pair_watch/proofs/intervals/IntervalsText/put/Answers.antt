use Rattle.std.proofs.Common.{◌≡◌, ◌++◌, ℕ, ◌+◌, ◌-◌, List, length, sym, ap, ap₂, ◌∙◌, subst, subst₂, arith}
use Rattle.std.proofs.lemmas.List.{append-nil}
use Rattle.acas_base.specs.declared.entry.Entry.{Entry}
use Rattle.air_journal.specs.EntryRefs.{entry_of}
use Rattle.air_rules.specs.Journal.{Begins}
use Rattle.pair_watch.specs.Watching.{begun_lines, lines_at}
use Rattle.pair_watch.proofs.Putting.{commits-within, ends-with, lines-more, lines-start, nothing-begins, other-no-lines, reads-on}
use Rattle.pair_watch.proofs.intervals.IntervalsText.put.Goals as goal

pub loop-entry-init : goal.loop-entry-init
loop-entry-init g c =
    let e = c.args.self.now.0.now.encounter in
    let J = c.args.self.now.0.now.journal in
    let read = c.new-reader.ensures.read in
    record {
      encounter = c.new-reader.ensures.encounter;
      journal = c.new-reader.ensures.journal;
      begins = subst (λ (K : List Entry). Begins K c.new-reader.result.journal) (sym read) (nothing-begins c.new-reader.result.journal);
      put = subst (g.S.LineSink.took c.args.sink.now c.args.sink.now) (sym (ap (begun_lines e J) read ∙ lines-start e J)) (g.met.S.LineSink.nothing c.args.sink.now);
    }

pub put_at-requires-clause-own : goal.put_at-requires-clause-own
put_at-requires-clause-own g c =
    let r = reads-on c.loop-entry.reader c.next.new.self c.in-Some.entry c.next.result c.in-Some.is c.next.ensures.entry c.next.ensures.journal c.loop-entry.invariant.begins c.next.ensures.read in
    let b = subst₂ (λ (K J : List Entry). Begins K J) r.read (c.next.ensures.journal ∙ c.loop-entry.invariant.journal) r.begins in
    commits-within c.args.self.now.0.now.encounter c.args.self.now.0.now.journal c.loop-entry.reader.read c.in-Some.entry c.in-Commit.own c.in-Commit.cycle c.in-Commit.cells c.in-Commit.is c.legal_law.ensures.valid c.legal_law.ensures.legal b

pub put_at-requires-clause-commit : goal.put_at-requires-clause-commit
put_at-requires-clause-commit g c =
    let r = reads-on c.loop-entry.reader c.next.new.self c.in-Some.entry c.next.result c.in-Some.is c.next.ensures.entry c.next.ensures.journal c.loop-entry.invariant.begins c.next.ensures.read in
    ends-with c.loop-entry.reader.read c.next.new.self.read c.in-Some.entry c.in-Commit.own c.in-Commit.cycle c.in-Commit.cells c.in-Commit.is r.read

pub loop-entry-smaller-in-Commit : goal.loop-entry-smaller-in-Commit
loop-entry-smaller-in-Commit g c =
    (reads-on c.loop-entry.reader c.next.new.self c.in-Some.entry c.next.result c.in-Some.is c.next.ensures.entry c.next.ensures.journal c.loop-entry.invariant.begins c.next.ensures.read).smaller

pub loop-entry-preserved-in-Commit : goal.loop-entry-preserved-in-Commit
loop-entry-preserved-in-Commit g c =
    let e = c.args.self.now.0.now.encounter in
    let J = c.args.self.now.0.now.journal in
    let old = c.loop-entry.reader in
    let new = c.next.new.self in
    let x = entry_of c.in-Some.entry in
    let r = reads-on old new c.in-Some.entry c.next.result c.in-Some.is c.next.ensures.entry c.next.ensures.journal c.loop-entry.invariant.begins c.next.ensures.read in
    let size : length new.read ≡ length old.read + 1 = ap length r.read ∙ (omega arith) in
    let place : c.position.result - 1 ≡ length old.read = (let p = c.position.ensures in omega arith) in
    let lines = ap₂ (λ (K : List Entry) (n : ℕ). begun_lines e J old.read ++ lines_at e J K n) r.read place ∙ lines-more e J old.read x ∙ ap (begun_lines e J) (sym r.read) in
    record {
      encounter = c.next.ensures.encounter ∙ c.loop-entry.invariant.encounter;
      journal = c.next.ensures.journal ∙ c.loop-entry.invariant.journal;
      begins = r.begins;
      put = subst (g.S.LineSink.took c.args.sink.now c.put_at.new.sink) lines (g.met.S.LineSink.then _ _ _ _ _ c.loop-entry.invariant.put c.put_at.ensures);
    }

pub loop-entry-smaller : goal.loop-entry-smaller
loop-entry-smaller g c =
    (reads-on c.loop-entry.reader c.next.new.self c.in-Some.entry c.next.result c.in-Some.is c.next.ensures.entry c.next.ensures.journal c.loop-entry.invariant.begins c.next.ensures.read).smaller

pub loop-entry-preserved : goal.loop-entry-preserved
loop-entry-preserved g c =
    let e = c.args.self.now.0.now.encounter in
    let J = c.args.self.now.0.now.journal in
    let old = c.loop-entry.reader in
    let x = entry_of c.in-Some.entry in
    let r = reads-on old c.next.new.self c.in-Some.entry c.next.result c.in-Some.is c.next.ensures.entry c.next.ensures.journal c.loop-entry.invariant.begins c.next.ensures.read in
    let none = other-no-lines e J old.read c.in-Some.entry (λ own cycle cells is. c.in_default-entry.not-Commit own cycle cells is) in
    let lines = sym (append-nil (begun_lines e J old.read)) ∙ ap (λ (xs : List (List ℕ)). begun_lines e J old.read ++ xs) (sym none) ∙ lines-more e J old.read x ∙ ap (begun_lines e J) (sym r.read) in
    record {
      encounter = c.next.ensures.encounter ∙ c.loop-entry.invariant.encounter;
      journal = c.next.ensures.journal ∙ c.loop-entry.invariant.journal;
      begins = r.begins;
      put = subst (g.S.LineSink.took c.args.sink.now c.loop-entry.sink) lines c.loop-entry.invariant.put;
    }
