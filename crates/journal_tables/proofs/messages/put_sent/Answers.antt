use Rattle.std.proofs.Common.{List, sym, ap, ◌∙◌, subst}
use Rattle.acas_base.specs.declared.entry.Entry.{Entry}
use Rattle.air_journal.specs.EntryRefs.{entry_of}
use Rattle.air_rules.specs.Journal.{Begins}
use Rattle.journal_tables.specs.Messages.{sent_lines}
use Rattle.journal_tables.proofs.Reading.{lines-more, lines-start, nothing-begins, reads-on}
use Rattle.journal_tables.proofs.messages.put_sent.Goals as goal

pub loop-entry-init : goal.loop-entry-init
loop-entry-init g c =
    let e = c.args.state.now.encounter in
    let J = c.args.state.now.journal in
    let read = c.new-reader.ensures.read in
    record {
      encounter = c.new-reader.ensures.encounter;
      journal = c.new-reader.ensures.journal;
      begins = subst (λ (K : List Entry). Begins K c.new-reader.result.journal) (sym read) (nothing-begins c.new-reader.result.journal);
      put = subst (g.S.LineSink.took c.args.sink.now c.args.sink.now) (sym (ap (sent_lines e J) read ∙ lines-start e J)) (g.met.S.LineSink.nothing c.args.sink.now);
    }

pub loop-entry-smaller : goal.loop-entry-smaller
loop-entry-smaller g c =
    (reads-on c.loop-entry.reader c.next.new.self c.in-Some.entry c.peek.result c.next.result c.in-Some.is c.peek.ensures.entry c.peek.ensures.end c.next.ensures.entry c.next.ensures.journal c.next.ensures.read).smaller

pub loop-entry-preserved : goal.loop-entry-preserved
loop-entry-preserved g c =
    let e = c.args.state.now.encounter in
    let J = c.args.state.now.journal in
    let old = c.loop-entry.reader in
    let x = entry_of c.in-Some.entry in
    let r = reads-on old c.next.new.self c.in-Some.entry c.peek.result c.next.result c.in-Some.is c.peek.ensures.entry c.peek.ensures.end c.next.ensures.entry c.next.ensures.journal c.next.ensures.read in
    record {
      encounter = c.next.ensures.encounter ∙ c.loop-entry.invariant.encounter;
      journal = c.next.ensures.journal ∙ c.loop-entry.invariant.journal;
      begins = r.begins;
      put = subst (g.S.LineSink.took c.args.sink.now c.put_entry.new.sink) (lines-more e J old.read x ∙ ap (sent_lines e J) (sym r.read)) (g.met.S.LineSink.then _ _ _ _ _ c.loop-entry.invariant.put c.put_entry.ensures);
    }
