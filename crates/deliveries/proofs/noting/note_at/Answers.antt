use Rattle.std.proofs.Common.{ap, sym, ◌∙◌, option_map}
use Rattle.air_journal.specs.EntryRefs.{entry_of}
use Rattle.deliveries.proofs.Slots.{notes-past}
use Rattle.deliveries.proofs.noting.note_at.Goals as goal

pub note-requires-clause-entry : goal.note-requires-clause-entry
note-requires-clause-entry c = sym c.entry_ref.ensures ∙ ap (option_map entry_of) c.in-Some.is

pub returns-in_default : goal.returns-in_default
returns-in_default c =
    notes-past c.args.state.now.encounter c.args.state.now.journal c.args.at c.args.notes.now.copies.items c.args.notes.now.takes.items c.args.notes.now.sent (sym c.entry_ref.ensures ∙ ap (option_map entry_of) c.in_default.is) c.requires
