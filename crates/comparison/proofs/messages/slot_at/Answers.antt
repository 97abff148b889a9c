use Rattle.std.proofs.Common.{sym, ap, ◌∙◌, option_map}
use Rattle.air_journal.proofs.Bounds.{few-crafts}
use Rattle.air_journal.specs.EntryRefs.{entry_of}
use Rattle.comparison.proofs.Slots.{entry-fits, none-sent, sent-fits, sent-found}
use Rattle.comparison.proofs.messages.slot_at.Goals as goal

pub slot_of-requires : goal.slot_of-requires
slot_of-requires c =
    let e = c.args.state.now.encounter in
    sent-fits _ _ (few-crafts e c.legal_law.ensures.valid)
    (entry-fits e c.args.state.now.journal c.args.send (entry_of c.in-Some.entry) c.legal_law.ensures.valid c.legal_law.ensures.legal (sym c.entry_ref.ensures ∙ ap (option_map entry_of) c.in-Some.is))

pub returns-in-Some : goal.returns-in-Some
returns-in-Some c = sent-found c.args.state.now.journal c.args.send (entry_of c.in-Some.entry) c.slot_of.result (sym c.entry_ref.ensures ∙ ap (option_map entry_of) c.in-Some.is) c.slot_of.ensures

pub returns-in-None : goal.returns-in-None
returns-in-None c = none-sent c.args.state.now.journal c.args.send (sym c.entry_ref.ensures ∙ ap (option_map entry_of) c.in-None.is)
