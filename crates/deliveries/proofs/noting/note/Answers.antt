use Rattle.std.proofs.Common.{ℕ, ◌+◌, ◌≤◌, List, Some, length, sym, ap, ◌∙◌, set, subst, subst₂, arith}
use Rattle.acas_base.specs.Encounter.{Parts}
use Rattle.acas_base.specs.declared.TheConstants.{CRAFTS}
use Rattle.air_journal.proofs.Bounds.{few-crafts}
use Rattle.air_journal.specs.EntryRefs.{entry_of}
use Rattle.air_journal.specs.Ranges.{IsEntry}
use Rattle.air_journal.specs.declared.entry_ref.EntryRef.{EntryRef}
use Rattle.air_rules.specs.Journal.{sent_at}
use Rattle.deliveries.proofs.Slots.{commit-noted, copies-within, entry-fits, none-noted, sent-noted, slot-within, taken-noted}
use Rattle.deliveries.specs.Noted.{AreNotes, IsSlotFound, copies_for, message_slot, read_of}
use Rattle.deliveries.specs.declared.takes.Copies.{Copies}
use Rattle.deliveries.specs.declared.takes.Takes.{Takes}
use Rattle.deliveries.proofs.noting.note.Goals as goal

pub note_send-requires-clause-sender : goal.note_send-requires-clause-sender
note_send-requires-clause-sender c =
    let e = c.args.state.now.encounter in
    let f = subst (λ (x : EntryRef). IsEntry (length e.crafts) (entry_of x)) c.in-Send.is (entry-fits e c.args.state.now.journal c.args.at (entry_of c.args.entry.now) c.legal_law.ensures.valid c.legal_law.ensures.legal c.requires.entry) in
    let few : length e.crafts ≤ CRAFTS = few-crafts e c.legal_law.ensures.valid in
    let own = f.0 in
    omega arith

pub note_send-requires-clause-receiver : goal.note_send-requires-clause-receiver
note_send-requires-clause-receiver c =
    let e = c.args.state.now.encounter in
    let f = subst (λ (x : EntryRef). IsEntry (length e.crafts) (entry_of x)) c.in-Send.is (entry-fits e c.args.state.now.journal c.args.at (entry_of c.args.entry.now) c.legal_law.ensures.valid c.legal_law.ensures.legal c.requires.entry) in
    let few : length e.crafts ≤ CRAFTS = few-crafts e c.legal_law.ensures.valid in
    let target = f.1 in
    omega arith

pub note_take-requires : goal.note_take-requires
note_take-requires c =
    let J = c.args.state.now.journal in
    slot-within c.args.state.now.encounter J (read_of J c.args.at) c.args.notes.now.takes.items (sent_at J c.in-Take.send) c.in-Some.slot c.legal_law.ensures.valid c.in-Some.ensures c.requires.noted.takes_are

pub returns-in-Commit : goal.returns-in-Commit
returns-in-Commit c =
    commit-noted c.args.state.now.encounter c.args.state.now.journal c.args.at c.args.notes.now.copies.items c.args.notes.now.takes.items c.args.notes.now.sent c.legal_law.ensures.valid c.legal_law.ensures.legal c.requires.noted _ _ _
    (c.requires.entry ∙ ap (λ (x : EntryRef). Some (entry_of x)) c.in-Commit.is)

pub note_copies-requires : goal.note_copies-requires
note_copies-requires c =
    let e = c.args.state.now.encounter in
    let f = subst (λ (x : EntryRef). IsEntry (length e.crafts) (entry_of x)) c.in-Send.is (entry-fits e c.args.state.now.journal c.args.at (entry_of c.args.entry.now) c.legal_law.ensures.valid c.legal_law.ensures.legal c.requires.entry) in
    copies-within e (read_of c.args.state.now.journal c.args.at) c.args.notes.now.copies.items c.in-Send.own c.in-Send.target c.in-Send.number c.legal_law.ensures.valid f.0 f.1 f.2 c.requires.noted.copies_are

pub returns-in-Send : goal.returns-in-Send
returns-in-Send c =
    let e = c.args.state.now.encounter in
    let J = c.args.state.now.journal in
    let own = c.in-Send.own in
    let target = c.in-Send.target in
    let number = c.in-Send.number in
    let old = c.args.notes.now.copies.items in
    let copies = c.note_copies.ensures ∙ ap (λ (p : Parts). set old (message_slot own target number) (copies_for p own target number)) c.enc.ensures in
    subst₂ (λ (cs : List Copies) (sent : List ℕ). AreNotes e J (c.args.at + 1) cs c.args.notes.now.takes.items sent) (sym copies) (sym c.note_send.ensures)
    (sent-noted e J c.args.at old c.args.notes.now.takes.items c.args.notes.now.sent c.legal_law.ensures.valid c.legal_law.ensures.legal c.requires.noted own target number c.in-Send.word
    (c.requires.entry ∙ ap (λ (x : EntryRef). Some (entry_of x)) c.in-Send.is))

pub returns-in-Some : goal.returns-in-Some
returns-in-Some c =
    let e = c.args.state.now.encounter in
    let J = c.args.state.now.journal in
    subst (λ (takes : List Takes). AreNotes e J (c.args.at + 1) c.args.notes.now.copies.items takes c.args.notes.now.sent) (sym c.note_take.ensures)
    (taken-noted e J c.args.at c.args.notes.now.copies.items c.args.notes.now.takes.items c.args.notes.now.sent c.legal_law.ensures.valid c.legal_law.ensures.legal c.requires.noted c.in-Take.own c.in-Take.send c.in-Take.copy c.in-Some.slot c.in-Take.good
    (c.requires.entry ∙ ap (λ (x : EntryRef). Some (entry_of x)) c.in-Take.is) c.in-Some.ensures)

pub returns-in_default : goal.returns-in_default
returns-in_default c =
    let e = c.args.state.now.encounter in
    let J = c.args.state.now.journal in
    none-noted e J c.args.at c.args.notes.now.copies.items c.args.notes.now.takes.items c.args.notes.now.sent c.legal_law.ensures.valid c.legal_law.ensures.legal c.requires.noted c.in-Take.own c.in-Take.send c.in-Take.copy c.in-Take.good
    (c.requires.entry ∙ ap (λ (x : EntryRef). Some (entry_of x)) c.in-Take.is) (subst (IsSlotFound (length e.crafts) (sent_at J c.in-Take.send)) c.in_default.is c.slot_at.ensures)
