use Rattle.std.proofs.Common.{Option, option_map, sym, ap, ◌∙◌}
use Rattle.std.specs.Prelude.{option_and_then}
use Rattle.acas_base.specs.declared.entry.Entry.{Entry}
use Rattle.air_journal.proofs.Places.{sent-at-index}
use Rattle.air_journal.specs.EntryRefs.{entry_of}
use Rattle.air_rules.specs.Journal.{Sent, as_sent}
use Rattle.air_journal.proofs.due.sender_at.Goals as goal

pub returns-in-Some : goal.returns-in-Some
returns-in-Some c =
    let read = sym c.entry.ensures ∙ ap (option_map entry_of) c.in-Some.is in
    c.sender_of.ensures ∙ sym (ap (option_map (λ (sent : Sent). sent.sender)) (sent-at-index c.args.journal.now.entries c.args.send ∙ ap (λ (o : Option Entry). option_and_then as_sent o) read))

pub returns-in-None : goal.returns-in-None
returns-in-None c =
    let read = sym c.entry.ensures ∙ ap (option_map entry_of) c.in-None.is in
    sym (ap (option_map (λ (sent : Sent). sent.sender)) (sent-at-index c.args.journal.now.entries c.args.send ∙ ap (λ (o : Option Entry). option_and_then as_sent o) read))
