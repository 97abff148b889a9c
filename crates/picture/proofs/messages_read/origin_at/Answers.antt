use Rattle.std.proofs.Common.{◌<◌, Option, length, option_map, sym, ap, ◌∙◌, subst}
use Rattle.std.specs.Prelude.{IfSome, option_and_then}
use Rattle.acas_base.specs.declared.entry.Entry.{Entry}
use Rattle.air_journal.proofs.Places.{sent-at-index}
use Rattle.air_journal.specs.EntryRefs.{entry_of}
use Rattle.air_rules.specs.Journal.{as_sent}
use Rattle.journal_reader.proofs.Prefixes.{follows}
use Rattle.picture.proofs.Messaging.{origin-fits}
use Rattle.picture.specs.Messages.{origin_of}
use Rattle.picture.specs.declared.messages_read.Origin.{Origin}
use Rattle.picture.proofs.messages_read.origin_at.Goals as goal

pub returns-in-Some-clause-value : goal.returns-in-Some-clause-value
returns-in-Some-clause-value c =
    let read = sym c.entry_ref.ensures ∙ ap (option_map entry_of) c.in-Some.is in
    c.origin_in.ensures ∙ sym (ap (option_map origin_of) (sent-at-index c.args.state.now.journal c.args.send ∙ ap (λ (o : Option Entry). option_and_then as_sent o) read))

pub returns-in-Some-clause-fits : goal.returns-in-Some-clause-fits
returns-in-Some-clause-fits c =
    let e = c.args.state.now.encounter in
    let read = sym c.entry_ref.ensures ∙ ap (option_map entry_of) c.in-Some.is in
    let fits = (follows e c.args.state.now.journal c.args.send (entry_of c.in-Some.entry) c.legal_law.ensures.valid c.legal_law.ensures.legal read).fits in
    subst (λ (o : Option Origin). IfSome o (λ (origin : Origin). origin.sender < length e.crafts)) (sym c.origin_in.ensures) (origin-fits (length e.crafts) (entry_of c.in-Some.entry) fits)

pub returns-in-None-clause-value : goal.returns-in-None-clause-value
returns-in-None-clause-value c =
    let read = sym c.entry_ref.ensures ∙ ap (option_map entry_of) c.in-None.is in
    sym (ap (option_map origin_of) (sent-at-index c.args.state.now.journal c.args.send ∙ ap (λ (o : Option Entry). option_and_then as_sent o) read))
