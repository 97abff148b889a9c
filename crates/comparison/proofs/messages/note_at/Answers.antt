use Rattle.std.proofs.Common.{◌+◌, List, ap, sym, ◌∙◌, subst, option_map, arith}
use Rattle.acas_base.specs.declared.entry.Entry.{Entry}
use Rattle.air_journal.specs.EntryRefs.{entry_of}
use Rattle.air_rules.specs.Journal.{sent_at}
use Rattle.comparison.specs.Messages.{AreTables}
use Rattle.journal_reader.proofs.Prefixes.{read-all, read-past}
use Rattle.comparison.proofs.messages.note_at.Goals as goal

pub note-requires-clause-entry : goal.note-requires-clause-entry
note-requires-clause-entry c = sym c.entry_ref.ensures ∙ ap (option_map entry_of) c.in-Some.is

pub returns-in_default : goal.returns-in_default
returns-in_default c =
    let J = c.args.state.now.journal in
    let past = read-past J c.args.at (sym c.entry_ref.ensures ∙ ap (option_map entry_of) c.in_default.is) in
    subst (λ (K : List Entry). AreTables (sent_at J) K c.args.tables.now.words.items c.args.tables.now.results.items) (read-all J c.args.at past ∙ sym (read-all J (c.args.at + 1) (omega arith))) c.requires
