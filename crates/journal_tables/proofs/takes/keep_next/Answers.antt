use Rattle.std.proofs.Common.{length, sym, ap, ◌∙◌, arith}
use Rattle.acas_base.specs.Encounter.{Parts}
use Rattle.air_journal.proofs.Bounds.{few-crafts}
use Rattle.air_journal.specs.Airs.{air_of}
use Rattle.air_journal.specs.EntryRefs.{entry_of}
use Rattle.journal_tables.proofs.Reading.{next-is}
use Rattle.journal_tables.proofs.Takings.{IsCopy, Shows, copy-fits, none-taken, one-taken, place-within, shows}
use Rattle.journal_tables.specs.Messages.{take_by}
use Rattle.journal_tables.proofs.takes.keep_next.Goals as goal
use Rattle.journal_tables.proofs.takes.keep_next.Goals.{In-Some}

shown : (c : In-Some) → Shows c.args.state.now (entry_of c.args.entry.now) c.in-Some.copy
shown c = shows c.args.state.now c.args.reader.now.read (entry_of c.args.entry.now) c.in-Some.copy c.legal_law.ensures.valid c.legal_law.ensures.legal c.requires.begins (sym c.copy_taken.ensures ∙ c.in-Some.is)

fits : (c : In-Some) → IsCopy (length c.args.state.now.encounter.crafts) c.in-Some.copy
fits c = copy-fits c.args.state.now (entry_of c.args.entry.now) c.in-Some.copy c.legal_law.ensures.valid c.legal_law.ensures.legal (shown c)

pub read_take-take-requires-clause-sender : goal.read_take-take-requires-clause-sender
read_take-take-requires-clause-sender c = (let a = (fits (goal.at.read_take-take-requires-clause-sender c).In-Some).sender in let few = few-crafts c.args.state.now.encounter c.legal_law.ensures.valid in omega arith)

pub read_take-take-requires-clause-receiver : goal.read_take-take-requires-clause-receiver
read_take-take-requires-clause-receiver c = (fits (goal.at.read_take-take-requires-clause-receiver c).In-Some).receiver

pub keep-requires-clause-number : goal.keep-requires-clause-number
keep-requires-clause-number c = (fits (goal.at.keep-requires-clause-number c).In-Some).number.0

pub keep-requires-clause-within : goal.keep-requires-clause-within
keep-requires-clause-within c =
    let crafts = length c.args.state.now.encounter.crafts in
    let within = place-within crafts c.in-Some.copy (fits (goal.at.keep-requires-clause-within c).In-Some) in
    let size = c.requires.takes.size in
    omega arith

pub returns-in_default-clause-read : goal.returns-in_default-clause-read
returns-in_default-clause-read c = next-is c.args.reader.now c.next.new.self c.args.entry.now c.next.result (sym c.requires.next) c.next.ensures.entry c.next.ensures.read

pub returns-in_default-clause-takes : goal.returns-in_default-clause-takes
returns-in_default-clause-takes c = none-taken c.args.state.now c.args.reader.now.read (entry_of c.args.entry.now) c.args.takes.now.items c.requires.takes (sym c.copy_taken.ensures ∙ c.in_default.is)

pub returns-clause-takes : goal.returns-clause-takes
returns-clause-takes c =
    let s = shown (goal.at.returns-clause-takes c).In-Some in
    one-taken c.args.state.now c.args.reader.now.read (entry_of c.args.entry.now) c.in-Some.copy c.args.takes.now.items c.keep.new.takes.items c.read_take-take.result c.legal_law.ensures.valid c.legal_law.ensures.legal s c.requires.takes c.keep.ensures
    (c.read_take-take.ensures.take ∙ ap (λ (p : Parts). take_by (air_of p) c.args.reader.now.read (entry_of c.args.entry.now) c.in-Some.copy.way.sender c.in-Some.copy.way.receiver) c.requires.encounter)
