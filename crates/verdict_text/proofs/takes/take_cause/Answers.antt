use Rattle.std.proofs.Common.{◌≡◌, ◌∙◌, true, ap, arith}
use Rattle.acas_base.specs.Encounter.{Parts}
use Rattle.acas_base.specs.Fates.{fate_of}
use Rattle.acas_base.specs.declared.link.Fate.{Fate}
use Rattle.air_journal.proofs.Activity.{told-active}
use Rattle.air_journal.proofs.Bounds.{below}
use Rattle.air_journal.specs.Airs.{air_of}
use Rattle.air_rules.specs.Air.{is_active}
use Rattle.verdict_text.proofs.Copies.{copies-told, due-now, held-back, sender-there, waits-there}
use Rattle.verdict_text.specs.Causes.{copies_of}
use Rattle.verdict_text.proofs.takes.take_cause.Goals as goal
use Rattle.verdict_text.proofs.takes.take_cause.Goals.{After-fate-copies}

active : (c : After-fate-copies) → is_active (air_of c.args.state.now.encounter) c.args.own ≡ true
active c = told-active c.args.state.now.encounter c.args.own c.is_active.result (rw c.enc.ensures at c.is_active.ensures) ∙ c.if-not-is_active.false

copies : (c : After-fate-copies) → c.fate-copies.result.copies ≡ copies_of (air_of c.args.state.now.encounter) c.in-Some.ensures.sent
copies c =
    let e = c.args.state.now.encounter in
    let m = c.in-Some.ensures in
    ap (λ (f : Fate). f.copies) (c.fate-copies.ensures ∙ ap (λ (x : Parts). fate_of x c.in-Some.message.sender c.args.own c.in-Some.message.number) c.enc-2.ensures)
    ∙ copies-told e c.legal_law.ensures.valid m.sent c.in-Some.message.sender c.args.own c.in-Some.message.number m.sender_is m.receiver m.number_is

pub returns-then-copies-copy : goal.returns-then-copies-copy
returns-then-copies-copy c =
    let at = (goal.at.returns-then-copies-copy c).After-fate-copies in
    let m = c.in-Some.ensures in
    record {
      sent = m.sent;
      to_own = record { active = active at; here = m.here; receiver = m.receiver };
      copies_are = copies at;
      past = c.if-copies-copy.true;
    }

pub returns-in-Some-taken_at : goal.returns-in-Some-taken_at
returns-in-Some-taken_at c =
    let at = (goal.at.returns-in-Some-taken_at c).After-fate-copies in
    let m = c.in-Some.ensures in
    record {
      sent = m.sent;
      to_own = record { active = active at; here = m.here; receiver = m.receiver };
      copy_is = omega (arith, c.if-copies-copy.false, copies at);
      taken = c.in-Some-taken_at.ensures;
    }

pub waiting-requires-clause-sender : goal.waiting-requires-clause-sender
waiting-requires-clause-sender c = sender-there c.args.state.now.encounter c.args.state.now.journal c.legal_law.ensures.valid c.legal_law.ensures.legal c.args.own c.args.send c.in-Some.message.sender c.in-Some.message.number c.in-Some.ensures

pub waiting-requires-clause-receiver : goal.waiting-requires-clause-receiver
waiting-requires-clause-receiver c = below c.args.state.now.encounter c.legal_law.ensures.valid c.args.own (active (goal.at.waiting-requires-clause-receiver c).After-fate-copies)

pub unreachable-requires : goal.unreachable-requires
unreachable-requires c =
    let at = (goal.at.unreachable-requires c).After-fate-copies in
    waits-there (air_of c.args.state.now.encounter) c.args.state.now.journal c.args.own c.args.send c.args.copy c.in-Some.message.sender c.in-Some.message.number c.waiting.result.now c.in-Some.ensures c.in_default-taken_at.ensures (omega (arith, c.if-copies-copy.false, copies at)) c.waiting.ensures.queue c.in-None.ensures

pub returns-then-due-made : goal.returns-then-due-made
returns-then-due-made c =
    due-now (air_of c.args.state.now.encounter) c.args.state.now.journal c.args.own c.args.send c.args.copy c.in-Some.message.sender c.in-Some-due_of.due c.commits-made.result c.waiting.result.now (active (goal.at.returns-then-due-made c).After-fate-copies)
    c.waiting.ensures.queue c.in-Some-due_of.ensures c.commits-made.ensures c.if-due-made.true

pub returns-else-due-made : goal.returns-else-due-made
returns-else-due-made c =
    held-back (air_of c.args.state.now.encounter) c.args.state.now.journal c.args.own c.args.send c.args.copy c.in-Some.message.sender c.in-Some-due_of.due c.commits-made.result c.waiting.result.now (active (goal.at.returns-else-due-made c).After-fate-copies)
    c.waiting.ensures.queue c.in-Some-due_of.ensures c.commits-made.ensures c.if-due-made.false
