use Rattle.std.proofs.Common.{◌∙◌, ◌+◌, ◌<◌, ◌^◌, List, ap, arith, length, rules, subst, sym}
use Rattle.std.specs.Prelude.{All}
use Rattle.std.proofs.lemmas.List.Elements.{All-head}
use Rattle.acas_base.specs.Encounter.{Parts}
use Rattle.acas_base.specs.declared.entry.Entry.{Entry}
use Rattle.air_journal.proofs.Bounds.{fits, most-few}
use Rattle.air_journal.proofs.WellFormed.{entries-fit}
use Rattle.air_journal.specs.EntryRefs.{entry_of}
use Rattle.air_journal.specs.Ranges.{IsEntry}
use Rattle.air_rules.proofs.Beginnings.{begins-length}
use Rattle.air_rules.specs.Journal.{Begins}
use Rattle.reasons.proofs.Reading.{begins-empty}
use Rattle.reasons.specs.Reasons.{reasons_of}
use Rattle.reasons.proofs.commits.reason_count.Goals as goal

pub entries-init : goal.entries-init
entries-init c = record {
  encounter = c.new-reader.ensures.encounter;
  journal = c.new-reader.ensures.journal;
  begins = subst (λ (K : List Entry). Begins K c.new-reader.result.journal) (sym c.new-reader.ensures.read) (begins-empty c.new-reader.result.journal);
  counted = ap (λ (K : List Entry). length (reasons_of c.args.state.now.encounter K)) (sym c.new-reader.ensures.read);
  few = omega arith;
}

pub reasons_in-count-requires : goal.reasons_in-count-requires
reasons_in-count-requires c =
    let e = c.next.new.self.encounter in
    let same = c.in-Some.ensures.encounter ∙ c.entries.invariant.encounter ∙ sym c.enc.ensures in
    let all = entries-fit e c.next.new.self.read c.reading_law.ensures.valid c.reading_law.ensures.read in
    let one = All-head (IsEntry (length e.crafts)) (entry_of c.in-Some.entry) c.entries.reader.read (subst (All (IsEntry (length e.crafts))) c.in-Some.ensures.read all) in
    subst (λ (x : Parts). IsEntry (length x.crafts) (entry_of c.in-Some.entry)) same one

pub overflow_add-count : goal.overflow_add-count
overflow_add-count c =
    let e = c.next.new.self.encounter in
    let room = fits e c.next.new.self.read c.reading_law.ensures.valid c.reading_law.ensures.read in
    let most = most-few e c.reading_law.ensures.valid in
    let size = ap length c.in-Some.ensures.read in
    let few = c.entries.invariant.few in
    let one = c.reasons_in-count.ensures.few in
    let fit : c.entries.count + c.reasons_in-count.result < 2 ^ 32 = omega arith in
    search rules

pub entries-smaller : goal.entries-smaller
entries-smaller c =
    let size = ap length c.in-Some.ensures.read in
    let same = ap length c.in-Some.ensures.journal in
    let within = begins-length c.next.new.self.read c.next.new.self.journal c.reading_law.ensures.begins in
    omega arith
