use Rattle.std.proofs.Common.{◌<◌, ◌≤◌, length, sym, ap, ◌∙◌, subst, arith}
use Rattle.acas_base.specs.Ranges.{IsCycle}
use Rattle.air_journal.specs.Airs.{air_of}
use Rattle.air_journal.specs.States.{State}
use Rattle.air_rules.specs.Journal.{sends}
use Rattle.deliveries.proofs.Befalling.{are-numbered}
use Rattle.deliveries.proofs.Slots.{copies-known, copies-there, sends-few-by}
use Rattle.deliveries.specs.Noted.{copies_for}
use Rattle.deliveries.proofs.deliveries.Deliveries.copies.Goals as goal

pub copies-requires : goal.copies-requires
copies-requires c =
    let s = c.self.inside.state in
    let sender = subst (λ (t : State). c.args.sender < length t.encounter.crafts) (sym c.self.view_is) c.requires.sender in
    let receiver = subst (λ (t : State). c.args.receiver < length t.encounter.crafts) (sym c.self.view_is) c.requires.receiver in
    let last = subst (λ (t : State). c.args.number ≤ sends t.journal c.args.sender c.args.receiver) (sym c.self.view_is) c.requires.last in
    let few = sends-few-by s.encounter s.journal c.legal_law.ensures.valid c.legal_law.ensures.legal c.args.sender c.args.receiver in
    let number : IsCycle c.args.number = (c.requires.first, omega arith) in
    copies-there s.encounter s.journal c.self.inside.notes.copies.items c.self.inside.notes.takes.items c.self.inside.notes.sent c.args.sender c.args.receiver c.legal_law.ensures.valid c.self.invariant sender receiver c.args.number number

pub returns : goal.returns
returns c =
    let s = c.self.inside.state in
    let sender = subst (λ (t : State). c.args.sender < length t.encounter.crafts) (sym c.self.view_is) c.requires.sender in
    let receiver = subst (λ (t : State). c.args.receiver < length t.encounter.crafts) (sym c.self.view_is) c.requires.receiver in
    let last = subst (λ (t : State). c.args.number ≤ sends t.journal c.args.sender c.args.receiver) (sym c.self.view_is) c.requires.last in
    let few = sends-few-by s.encounter s.journal c.legal_law.ensures.valid c.legal_law.ensures.legal c.args.sender c.args.receiver in
    let number : IsCycle c.args.number = (c.requires.first, omega arith) in
    let sent = (are-numbered (air_of s.encounter) s.journal c.legal_law.ensures.legal c.args.sender c.args.receiver c.args.number).1 (c.requires.first, last) in
    c.copies.ensures
    ∙ copies-known s.encounter s.journal c.self.inside.notes.copies.items c.self.inside.notes.takes.items c.self.inside.notes.sent c.args.sender c.args.receiver c.legal_law.ensures.valid c.self.invariant sender receiver c.args.number number sent
    ∙ ap (λ (t : State). copies_for t.encounter c.args.sender c.args.receiver c.args.number) c.self.view_is
