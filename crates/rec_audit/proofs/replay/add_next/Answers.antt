use Rattle.std.proofs.Common.{◌≡◌, ◌∷◌, [], List, ℕ, ap, length, ◌∙◌, subst, sym}
use Rattle.acas_base.specs.Encounter.{Parts}
use Rattle.acas_base.specs.declared.entry.Entry.{Entry}
use Rattle.acas_lines.specs.Lines.{joined}
use Rattle.air_journal.specs.Airs.{air_of}
use Rattle.rec_audit.proofs.Making.{newest-at, next-line, no-entry, other-entry}
use Rattle.rec_audit.specs.Cursors.{Took}
use Rattle.rec_audit.specs.Replays.{misspelled}
use Rattle.rec_text.specs.Entries.{entry_line}
use Rattle.rec_audit.proofs.replay.add_next.Goals as goal
use Rattle.rec_audit.proofs.replay.add_next.Goals.{After-crafts, After-take_entry_at}

count : (c : After-crafts) → length c.crafts.result.now ≡ length c.args.state.now.encounter.crafts
count c = ap length (c.crafts.ensures.value ∙ ap (λ (e : Parts). e.crafts) c.enc.ensures)

-- A line in one air and in the same one.
same-air : (e f : Parts) (entry : Entry) → e ≡ f → entry_line (length e.crafts) entry ≡ entry_line (length f.crafts) entry
same-air e f entry same = ap (λ (x : Parts). entry_line (length x.crafts) entry) same

pub returns-in_default-clause-added : goal.returns-in_default-clause-added
returns-in_default-clause-added c =
    let none = rw (count (goal.at.returns-in_default-clause-added c).After-crafts) at c.in_default.ensures in
    λ line rest is. misspelled (λ entry fits same. none entry (joined rest) fits (next-line _ line _ _ rest c.rest.ensures is same))

pub returns-in-Some-read_first-clause-added : goal.returns-in-Some-read_first-clause-added
returns-in-Some-read_first-clause-added c =
    let same = count (goal.at.returns-in-Some-read_first-clause-added c).After-crafts in
    let read = rw same at c.in-Some-read_first.ensures in
    let told = rw same at c.in-Some.ensures in
    λ line rest is.
    let entry = c.in-Some-read_first.field-0 in
    no-entry (air_of c.args.state.now.encounter) c.args.state.now.journal c.in-Some.about entry line (read line rest is).0 (read line rest is).1
    (told.1 entry (joined rest) (read line rest is).0 (next-line _ line _ _ rest c.rest.ensures is (sym (read line rest is).1))) c.if-not-ask.ensures.asks

pub returns-in-None-clause-added : goal.returns-in-None-clause-added
returns-in-None-clause-added c =
    let read = rw (count (goal.at.returns-in-None-clause-added c).After-crafts) at c.in-None.ensures in
    λ line rest is. misspelled (read line rest is)

pub returns-then-take_entry_at-clause-added : goal.returns-then-take_entry_at-clause-added
returns-then-take_entry_at-clause-added c =
    let e = c.args.state.now.encounter in
    let a = c.if-not-ask.ensures.asks in
    let took = c.if-take_entry_at.ensures a.entry (newest-at c.args.state.now.journal c.ask.new.state.journal a.entry c.count-at.result a.new_is c.count-at.ensures.value) in
    record {
      entry = a.entry;
      took = subst (λ (l : List ℕ). Took c.args.lines.now c.take_entry_at.new.lines (l ∷ [])) (same-air c.ask.new.state.encounter e a.entry c.ask.ensures.encounter) took;
      allowed = a.allowed;
      new_is = a.new_is;
    }

pub returns-in-Some-read_first-2-clause-added : goal.returns-in-Some-read_first-2-clause-added
returns-in-Some-read_first-2-clause-added c =
    let same = count (goal.at.returns-in-Some-read_first-2-clause-added c).After-crafts in
    let e = c.args.state.now.encounter in
    let a = c.if-not-ask.ensures.asks in
    let left = c.if-take_entry_at.ensures a.entry (newest-at c.args.state.now.journal c.ask.new.state.journal a.entry c.count-at.result a.new_is c.count-at.ensures.value) in
    let read = rw (same, left.0) at c.in-Some-read_first-2.ensures in
    let told = rw same at c.in-Some.ensures in
    λ line rest is.
    let entry = c.in-Some-read_first-2.field-0 in
    other-entry (air_of e) c.args.state.now.journal c.ask.new.state.journal c.in-Some.about entry line (read line rest is).0 (read line rest is).1
    (told.1 entry (joined rest) (read line rest is).0 (next-line _ line _ _ rest c.rest.ensures is (sym (read line rest is).1))) a
    (λ mine. left.1 rest (is ∙ ap (λ (l : List ℕ). l ∷ rest) (mine ∙ sym (same-air c.ask.new.state.encounter e a.entry c.ask.ensures.encounter))))

pub returns-in-None-read_first-clause-added : goal.returns-in-None-read_first-clause-added
returns-in-None-read_first-clause-added c =
    let a = c.if-not-ask.ensures.asks in
    let left = c.if-take_entry_at.ensures a.entry (newest-at c.args.state.now.journal c.ask.new.state.journal a.entry c.count-at.result a.new_is c.count-at.ensures.value) in
    let read = rw (count (goal.at.returns-in-None-read_first-clause-added c).After-crafts, left.0) at c.in-None-read_first.ensures in
    λ line rest is. misspelled (read line rest is)
