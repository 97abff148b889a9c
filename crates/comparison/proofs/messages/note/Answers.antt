use Rattle.std.proofs.Common.{◌∷◌, ◌<◌, ◌≤◌, ℕ, Bool, List, Option, Some, refl, length, sym, ap, ◌∙◌, subst, arith}
use Rattle.acas_base.specs.declared.entry.Entry.{Entry}
use Rattle.acas_base.specs.declared.entry.Entry.TheVariants.{Send, Take}
use Rattle.air_journal.proofs.Bounds.{few-crafts}
use Rattle.air_journal.specs.EntryRefs.{entry_of}
use Rattle.air_journal.specs.Ranges.{IsEntry}
use Rattle.air_journal.specs.declared.entry_ref.EntryRef.{EntryRef}
use Rattle.air_rules.specs.Journal.{sent_at}
use Rattle.comparison.proofs.Slots.{commit-noted, entry-fits, send-noted, slot-of-small, slot-small, take-noted, take-of-none}
use Rattle.comparison.specs.Messages.{AreTables, IsSlotFound, copy_slot}
use Rattle.journal_reader.proofs.Prefixes.{read-more}
use Rattle.journal_reader.specs.Reading.{read_of}
use Rattle.comparison.proofs.messages.note.Goals as goal

pub message_slot-requires : goal.message_slot-requires
message_slot-requires c =
    let e = c.args.state.now.encounter in
    let J = c.args.state.now.journal in
    let f = subst (λ (x : EntryRef). IsEntry (length e.crafts) (entry_of x)) c.in-Send.is (entry-fits e J c.args.at (entry_of c.args.entry.now) c.legal_law.ensures.valid c.legal_law.ensures.legal c.requires.entry) in
    record { number = f.2.0 }

pub note_send-requires : goal.note_send-requires
note_send-requires c =
    let e = c.args.state.now.encounter in
    let J = c.args.state.now.journal in
    let f = subst (λ (x : EntryRef). IsEntry (length e.crafts) (entry_of x)) c.in-Send.is (entry-fits e J c.args.at (entry_of c.args.entry.now) c.legal_law.ensures.valid c.legal_law.ensures.legal c.requires.entry) in
    let few : length e.crafts ≤ 16 = few-crafts e c.legal_law.ensures.valid in
    let own : c.in-Send.own < 16 = (let a = f.0 in omega arith) in
    let target : c.in-Send.target < 16 = (let a = f.1 in omega arith) in
    let small = slot-small c.in-Send.own c.in-Send.target c.in-Send.number own target f.2 in
    let is = c.message_slot.ensures in
    let size = c.requires.before.messages in
    omega arith

pub note_take-requires-clause-slot : goal.note_take-requires-clause-slot
note_take-requires-clause-slot c = slot-of-small (sent_at c.args.state.now.journal c.in-Take.send) c.in-Some.slot c.in-Some.ensures

pub note_take-requires-clause-within : goal.note_take-requires-clause-within
note_take-requires-clause-within c =
    let e = c.args.state.now.encounter in
    let J = c.args.state.now.journal in
    let f = subst (λ (x : EntryRef). IsEntry (length e.crafts) (entry_of x)) c.in-Take.is (entry-fits e J c.args.at (entry_of c.args.entry.now) c.legal_law.ensures.valid c.legal_law.ensures.legal c.requires.entry) in
    let small = slot-of-small (sent_at J c.in-Take.send) c.in-Some.slot c.in-Some.ensures in
    let copy = f.2 in
    let size = c.requires.before.copies in
    omega arith

pub returns-in-Commit : goal.returns-in-Commit
returns-in-Commit c =
    let e = c.args.state.now.encounter in
    let J = c.args.state.now.journal in
    let words = c.args.tables.now.words.items in
    let results = c.args.tables.now.results.items in
    let read = read-more J c.args.at _ (c.requires.entry ∙ ap (λ (x : EntryRef). Some (entry_of x)) c.in-Commit.is) in
    subst (λ (K : List Entry). AreTables (sent_at J) K words results) (sym read) (commit-noted (sent_at J) (read_of J c.args.at) words results _ _ _ c.requires.before)

pub returns-in-Send : goal.returns-in-Send
returns-in-Send c =
    let e = c.args.state.now.encounter in
    let J = c.args.state.now.journal in
    let f = subst (λ (x : EntryRef). IsEntry (length e.crafts) (entry_of x)) c.in-Send.is (entry-fits e J c.args.at (entry_of c.args.entry.now) c.legal_law.ensures.valid c.legal_law.ensures.legal c.requires.entry) in
    let few : length e.crafts ≤ 16 = few-crafts e c.legal_law.ensures.valid in
    let own : c.in-Send.own < 16 = (let a = f.0 in omega arith) in
    let target : c.in-Send.target < 16 = (let a = f.1 in omega arith) in
    let words = c.args.tables.now.words.items in
    let results = c.args.tables.now.results.items in
    let read = read-more J c.args.at _ (c.requires.entry ∙ ap (λ (x : EntryRef). Some (entry_of x)) c.in-Send.is) in
    subst (λ (K : List Entry). AreTables (sent_at J) K c.note_send.new.words.items results) (sym read)
    (subst (λ (ws : List (Option ℕ)). AreTables (sent_at J) (Send c.in-Send.own c.in-Send.target c.in-Send.number c.in-Send.word ∷ read_of J c.args.at) ws results) (sym c.note_send.ensures)
    (send-noted (sent_at J) (read_of J c.args.at) words results c.in-Send.own c.in-Send.target c.in-Send.number c.in-Send.word c.message_slot.result own target f.2 c.message_slot.ensures c.requires.before))

pub returns-in-Some : goal.returns-in-Some
returns-in-Some c =
    let e = c.args.state.now.encounter in
    let J = c.args.state.now.journal in
    let f = subst (λ (x : EntryRef). IsEntry (length e.crafts) (entry_of x)) c.in-Take.is (entry-fits e J c.args.at (entry_of c.args.entry.now) c.legal_law.ensures.valid c.legal_law.ensures.legal c.requires.entry) in
    let words = c.args.tables.now.words.items in
    let results = c.args.tables.now.results.items in
    let read = read-more J c.args.at _ (c.requires.entry ∙ ap (λ (x : EntryRef). Some (entry_of x)) c.in-Take.is) in
    subst (λ (K : List Entry). AreTables (sent_at J) K words c.note_take.new.results.items) (sym read)
    (subst (λ (rs : List (Option Bool)). AreTables (sent_at J) (Take c.in-Take.own c.in-Take.send c.in-Take.copy c.in-Take.good ∷ read_of J c.args.at) words rs) (sym c.note_take.ensures)
    (take-noted (sent_at J) (read_of J c.args.at) words results c.in-Take.own c.in-Take.send c.in-Take.copy c.in-Some.slot (copy_slot c.in-Some.slot c.in-Take.copy) c.in-Take.good f.2 refl c.in-Some.ensures c.requires.before))

pub returns-in_default : goal.returns-in_default
returns-in_default c =
    let e = c.args.state.now.encounter in
    let J = c.args.state.now.journal in
    let words = c.args.tables.now.words.items in
    let results = c.args.tables.now.results.items in
    let read = read-more J c.args.at _ (c.requires.entry ∙ ap (λ (x : EntryRef). Some (entry_of x)) c.in-Take.is) in
    let none = subst (IsSlotFound (sent_at J c.in-Take.send)) c.in_default.is c.slot_at.ensures in
    subst (λ (K : List Entry). AreTables (sent_at J) K words results) (sym read) (take-of-none (sent_at J) (read_of J c.args.at) words results c.in-Take.own c.in-Take.send c.in-Take.copy c.in-Take.good none c.requires.before)
