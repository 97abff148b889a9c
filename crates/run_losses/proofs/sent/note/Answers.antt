use Rattle.std.proofs.Common.{List, ℕ, ◌+◌, Some, ap, sym, ◌∙◌, subst}
use Rattle.air_journal.specs.EntryRefs.{entry_of}
use Rattle.air_journal.specs.declared.entry_ref.EntryRef.{EntryRef}
use Rattle.run_losses.proofs.Noting.{commit-noted, places-in, sent-noted, take-noted}
use Rattle.run_losses.specs.Counted.{AreSent, read_of}
use Rattle.run_losses.proofs.sent.note.Goals as goal

pub note_send-requires-clause-sender : goal.note_send-requires-clause-sender
note_send-requires-clause-sender c =
    (places-in c.args.state.now.encounter c.args.state.now.journal c.args.at c.in-Send.own c.in-Send.target c.in-Send.number c.in-Send.word c.legal_law.ensures.valid c.legal_law.ensures.legal
    (c.requires.entry ∙ ap (λ (x : EntryRef). Some (entry_of x)) c.in-Send.is)).0

pub note_send-requires-clause-receiver : goal.note_send-requires-clause-receiver
note_send-requires-clause-receiver c =
    (places-in c.args.state.now.encounter c.args.state.now.journal c.args.at c.in-Send.own c.in-Send.target c.in-Send.number c.in-Send.word c.legal_law.ensures.valid c.legal_law.ensures.legal
    (c.requires.entry ∙ ap (λ (x : EntryRef). Some (entry_of x)) c.in-Send.is)).1

pub returns-in-Commit : goal.returns-in-Commit
returns-in-Commit c =
    commit-noted c.args.state.now.encounter c.args.state.now.journal c.args.at c.args.sent.now c.legal_law.ensures.valid c.legal_law.ensures.legal c.requires.sent _ _ _
    (c.requires.entry ∙ ap (λ (x : EntryRef). Some (entry_of x)) c.in-Commit.is)

pub returns-in-Take : goal.returns-in-Take
returns-in-Take c =
    take-noted c.args.state.now.encounter c.args.state.now.journal c.args.at c.args.sent.now c.legal_law.ensures.valid c.legal_law.ensures.legal c.requires.sent _ _ _ _
    (c.requires.entry ∙ ap (λ (x : EntryRef). Some (entry_of x)) c.in-Take.is)

pub returns-in-Send : goal.returns-in-Send
returns-in-Send c =
    subst (λ (sent : List ℕ). AreSent (read_of c.args.state.now.journal (c.args.at + 1)) sent) (sym c.note_send.ensures)
    (sent-noted c.args.state.now.encounter c.args.state.now.journal c.args.at c.args.sent.now c.legal_law.ensures.valid c.legal_law.ensures.legal c.requires.sent c.in-Send.own c.in-Send.target c.in-Send.number c.in-Send.word
    (c.requires.entry ∙ ap (λ (x : EntryRef). Some (entry_of x)) c.in-Send.is))
