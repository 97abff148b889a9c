use Rattle.std.proofs.Common.{length, subst}
use Rattle.acas_base.specs.Encounter.{IsEncounter, Parts}
use Rattle.air_journal.proofs.Soundness.{sound-of}
use Rattle.air_journal.specs.Airs.{air_of}
use Rattle.air_rules.specs.Rules.{IsLegal}
use Rattle.std.proofs.lemmas.Bool.{MatchBool-at_false, MatchBool-at_true}
use Rattle.resume.proofs.Stepping.{go-step, last-step, send-step}
use Rattle.resume.proofs.steps.step.Goals as goal

pub returns-then-may_go-clause-stepped : goal.returns-then-may_go-clause-stepped
returns-then-may_go-clause-stepped c =
    let sound = sound-of c.args.enc.now (subst IsEncounter c.requires.same c.legal_law.ensures.valid) in
    go-step (air_of c.args.enc.now) sound c.args.state.now.journal c.commit_next.new.state.journal c.in-Some.own (length c.args.state.now.journal) c.in-Some.ensures (MatchBool-at_true _ _ c.if-may_go.true c.may_go.ensures) c.commit_next.ensures.commits

pub returns-then-send_first-clause-stepped : goal.returns-then-send_first-clause-stepped
returns-then-send_first-clause-stepped c =
    let sound = sound-of c.args.enc.now (subst IsEncounter c.requires.same c.legal_law.ensures.valid) in
    send-step (air_of c.args.enc.now) sound c.args.state.now.journal c.send_first.new.state.journal c.in-Some.own c.in-Some.ensures (MatchBool-at_false _ _ c.if-may_go.false c.may_go.ensures) (MatchBool-at_true _ _ c.if-send_first.true c.send_first.ensures.sent)

pub returns-clause-stepped : goal.returns-clause-stepped
returns-clause-stepped c =
    let sound = sound-of c.args.enc.now (subst IsEncounter c.requires.same c.legal_law.ensures.valid) in
    let legal = subst (λ (e : Parts). IsLegal (air_of e) c.args.state.now.journal) c.requires.same c.legal_law.ensures.legal in
    let r = MatchBool-at_false _ _ c.if-send_first.false c.send_first.ensures.sent in
    last-step (air_of c.args.enc.now) sound c.args.state.now.journal c.send_first.new.state.journal c.take_first.new.state.journal c.in-Some.own legal c.in-Some.ensures (MatchBool-at_false _ _ c.if-may_go.false c.may_go.ensures) r.0 r.1 c.take_first.result c.take_first.ensures.took
