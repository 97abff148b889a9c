use Rattle.std.proofs.Common.{List, sym, ap, ap₂, ◌∙◌}
use Rattle.std.specs.Prelude.{not}
use Rattle.acas_base.specs.Encounter.{Parts}
use Rattle.acas_base.specs.declared.entry.Entry.{Entry}
use Rattle.air_journal.specs.Airs.{air_of}
use Rattle.air_rules.specs.Takes.{complement_from}
use Rattle.journal_tables.specs.Messages.{is_same_complement}
use Rattle.journal_tables.proofs.Reading.{next-is}
use Rattle.journal_tables.proofs.takes.read_take.Goals as goal

pub returns-clause-read : goal.returns-clause-read
returns-clause-read c = next-is c.args.reader.now c.next.new.self c.args.entry.now c.next.result (sym c.requires.next) c.next.ensures.entry c.next.ensures.read

pub returns-clause-take : goal.returns-clause-take
returns-clause-take c =
    let sender = c.args.way.sender in
    let receiver = c.args.way.receiver in
    let read = next-is c.args.reader.now c.next.new.self c.args.entry.now c.next.result (sym c.requires.next) c.next.ensures.entry c.next.ensures.read in
    let after = c.complement-after.ensures ∙ ap₂ (λ (e : Parts) (K : List Entry). complement_from (air_of e) K receiver sender) c.next.ensures.encounter read in
    let changed = ap not (c.is_same_complement.ensures ∙ ap₂ is_same_complement c.complement-before.ensures after) in
    λ t. record { at = c.position-at.ensures t; cycle = c.commits-cycle.ensures t; good = c.is_good.ensures t; changed = changed t }
