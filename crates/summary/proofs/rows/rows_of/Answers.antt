use Rattle.std.proofs.Common.{List, sym, ◌∙◌, subst, subst₂}
use Rattle.acas_base.specs.Encounter.{Parts}
use Rattle.acas_base.specs.declared.entry.Entry.{Entry}
use Rattle.air_journal.specs.Airs.{air_of}
use Rattle.air_journal.specs.EntryRefs.{entry_of}
use Rattle.air_rules.specs.Journal.{Begins}
use Rattle.summary.specs.Kept.{AreRows}
use Rattle.summary.specs.declared.rows.Row.{Row}
use Rattle.summary.proofs.Reading.{nothing-begins, reads-on}
use Rattle.summary.proofs.Rowing.{no-rows}
use Rattle.summary.proofs.rows.rows_of.Goals as goal

pub loop-entry-init : goal.loop-entry-init
loop-entry-init c =
    let r = c.new-reader.result in
    let read = c.new-reader.ensures.read in
    record {
      encounter = c.new-reader.ensures.encounter;
      journal = c.new-reader.ensures.journal;
      begins = subst (λ (K : List Entry). Begins K r.journal) (sym read) (nothing-begins r.journal);
      kept = subst₂ (λ (K : List Entry) (rows : List Row). AreRows (air_of r.encounter) K rows) (sym read) (sym c.no_rows-rows.ensures) (no-rows (air_of r.encounter));
    }

pub loop-entry-smaller : goal.loop-entry-smaller
loop-entry-smaller c =
    (reads-on c.loop-entry.reader c.next.new.self c.in-Some.entry c.peek.result c.next.result c.in-Some.is c.peek.ensures.entry c.peek.ensures.end c.next.ensures.entry c.next.ensures.journal c.next.ensures.read).smaller

pub loop-entry-preserved : goal.loop-entry-preserved
loop-entry-preserved c =
    let old = c.loop-entry.reader in
    let x = entry_of c.in-Some.entry in
    let r = reads-on old c.next.new.self c.in-Some.entry c.peek.result c.next.result c.in-Some.is c.peek.ensures.entry c.peek.ensures.end c.next.ensures.entry c.next.ensures.journal c.next.ensures.read in
    record {
      encounter = c.next.ensures.encounter ∙ c.loop-entry.invariant.encounter;
      journal = c.next.ensures.journal ∙ c.loop-entry.invariant.journal;
      begins = r.begins;
      kept = subst₂ (λ (e : Parts) (K : List Entry). AreRows (air_of e) K c.note.new.rows) (sym c.next.ensures.encounter) (sym r.read) c.note.ensures;
    }
