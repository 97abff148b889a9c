use Rattle.std.proofs.Common.{length, sym, ap, ◌∙◌, option_map}
use Rattle.air_journal.specs.EntryRefs.{entry_of}
use Rattle.deliveries.proofs.Slots.{entry-fits, none-sent, sent-found}
use Rattle.deliveries.proofs.noting.slot_at.Goals as goal

pub returns-in-Some : goal.returns-in-Some
returns-in-Some c =
    let e = c.args.state.now.encounter in
    let J = c.args.state.now.journal in
    let x = entry_of c.in-Some.entry in
    let is = sym c.entry_ref.ensures ∙ ap (option_map entry_of) c.in-Some.is in
    sent-found (length e.crafts) J c.args.send x c.slot_of.result is (c.slot_of.ensures (length e.crafts) (entry-fits e J c.args.send x c.legal_law.ensures.valid c.legal_law.ensures.legal is))

pub returns-in-None : goal.returns-in-None
returns-in-None c = none-sent c.args.state.now.journal c.args.send (sym c.entry_ref.ensures ∙ ap (option_map entry_of) c.in-None.is)
