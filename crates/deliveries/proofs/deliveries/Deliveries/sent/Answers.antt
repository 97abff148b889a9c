use Rattle.std.proofs.Common.{ℕ, ◌<◌, ◌≤◌, length, sym, subst}
use Rattle.air_journal.specs.States.{State}
use Rattle.deliveries.proofs.Slots.{sends-few-by, sent-known}
use Rattle.deliveries.proofs.deliveries.Deliveries.sent.Goals as goal

pub returns-clause-few : goal.returns-clause-few
returns-clause-few c =
    let s = c.self.inside.state in
    let sender = subst (λ (t : State). c.args.sender < length t.encounter.crafts) (sym c.self.view_is) c.requires.sender in
    let receiver = subst (λ (t : State). c.args.receiver < length t.encounter.crafts) (sym c.self.view_is) c.requires.receiver in
    let known = sent-known s.encounter s.journal c.self.inside.notes.copies.items c.self.inside.notes.takes.items c.self.inside.notes.sent c.args.sender c.args.receiver c.legal_law.ensures.valid c.self.invariant sender receiver c.pair_of.result c.pair_of.ensures in
    subst (λ (n : ℕ). n ≤ 600) (sym known) (sends-few-by s.encounter s.journal c.legal_law.ensures.valid c.legal_law.ensures.legal c.args.sender c.args.receiver)
