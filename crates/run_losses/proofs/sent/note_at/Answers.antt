use Rattle.std.proofs.Common.{ap, sym, ◌∙◌, option_map}
use Rattle.air_journal.specs.EntryRefs.{entry_of}
use Rattle.run_losses.proofs.Noting.{past-noted}
use Rattle.run_losses.proofs.sent.note_at.Goals as goal

pub note-requires-clause-entry : goal.note-requires-clause-entry
note-requires-clause-entry c = sym c.entry_ref.ensures ∙ ap (option_map entry_of) c.in-Some.is

pub returns-in_default : goal.returns-in_default
returns-in_default c = past-noted c.args.state.now.journal c.args.at c.args.sent.now (sym c.entry_ref.ensures ∙ ap (option_map entry_of) c.in_default.is) c.requires
