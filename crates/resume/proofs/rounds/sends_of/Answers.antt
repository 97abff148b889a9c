use Rattle.std.proofs.Common.{◌≡◌, ◌+◌, ◌-◌, ◌<◌, ◌≤◌, length, sym, ap, ◌∙◌, subst, arith}
use Rattle.acas_base.specs.Encounter.{IsEncounter, Parts}
use Rattle.air_journal.proofs.Bounds.{fits}
use Rattle.air_journal.specs.Airs.{air_of}
use Rattle.air_journal.specs.Calls.{Sends}
use Rattle.air_journal.specs.declared.answers.Sent.TheVariants as sent
use Rattle.air_rules.specs.Length.{most_entries}
use Rattle.air_rules.specs.Rules.{IsLegal}
use Rattle.craft_view.specs.Kept.{IsActive}
use Rattle.air_journal.proofs.Activity.{to-active, told-active}
use Rattle.resume.proofs.Turns.{fills-on, sends-skip, sent-all, sent-one}
use Rattle.resume.specs.Filling.{unfilled}
use Rattle.resume.proofs.rounds.sends_of.Goals as goal

pub returns-then-not-is_active : goal.returns-then-not-is_active
returns-then-not-is_active c = record {
  encounter = c.requires.same;
  fills = unfilled;
  after = sends-skip (air_of c.args.enc.now) c.args.state.now.journal c.args.own c.args.rounds (told-active c.args.enc.now c.args.own c.is_active.result c.is_active.ensures ∙ c.if-not-is_active.true) c.requires.before;
}

pub loop-init : goal.loop-init
loop-init c = record {
  same = c.requires.same;
  valid = subst IsEncounter c.requires.same c.legal_law.ensures.valid;
  legal = subst (λ (e : Parts). IsLegal (air_of e) c.args.state.now.journal) c.requires.same c.legal_law.ensures.legal;
  active = to-active c.args.enc.now c.args.own (told-active c.args.enc.now c.args.own c.is_active.result c.is_active.ensures ∙ c.if-not-is_active.false);
  fills = unfilled;
  before = c.requires.before;
}

pub loop-preserved : goal.loop-preserved
loop-preserved c =
    let i = c.loop.invariant in
    let air = air_of c.args.enc.now in
    let s = subst (λ (e : Parts). Sends (air_of e) c.loop.state.journal c.args.own c.send.new.self.journal (sent.Done c.in-Done.field-0)) c.loop.invariant.same c.in-Done.ensures.sends in
    let g = sent-one air c.loop.state.journal c.send.new.self.journal c.args.own c.args.rounds c.in-Done.field-0 i.before s in
    record {
      same = c.in-Done.ensures.encounter ∙ i.same;
      valid = i.valid;
      legal = subst (λ (e : Parts). IsLegal (air_of e) c.send.new.self.journal) (c.in-Done.ensures.encounter ∙ i.same) c.in-Done.ensures.legal;
      active = i.active;
      fills = fills-on air c.args.state.now.journal c.loop.state.journal c.send.new.self.journal i.fills g.fills;
      before = g.after;
    }

pub loop-smaller : goal.loop-smaller
loop-smaller c =
    let i = c.loop.invariant in
    let air = air_of c.args.enc.now in
    let s = subst (λ (e : Parts). Sends (air_of e) c.loop.state.journal c.args.own c.send.new.self.journal (sent.Done c.in-Done.field-0)) c.loop.invariant.same c.in-Done.ensures.sends in
    let m = ap length s.new_is in
    let n : length c.send.new.self.journal ≡ length c.loop.state.journal + 1 = omega arith in
    let legal : IsLegal air c.send.new.self.journal = subst (λ (e : Parts). IsLegal (air_of e) c.send.new.self.journal) (c.in-Done.ensures.encounter ∙ i.same) c.in-Done.ensures.legal in
    let few : length c.send.new.self.journal ≤ most_entries air = fits c.args.enc.now c.send.new.self.journal i.valid legal in
    let less : most_entries air - length c.send.new.self.journal < most_entries air - length c.loop.state.journal = omega arith in
    less

pub send-requires : goal.send-requires
send-requires c = subst (λ (e : Parts). IsActive e c.args.own) (sym c.loop.invariant.same) c.loop.invariant.active

pub returns-in-Nothing : goal.returns-in-Nothing
returns-in-Nothing c =
    let i = c.loop.invariant in
    let air = air_of c.args.enc.now in
    let g = sent-all air c.loop.state.journal c.send.new.self.journal c.args.own c.args.rounds i.before
    (subst (λ (e : Parts). Sends (air_of e) c.loop.state.journal c.args.own c.send.new.self.journal sent.Nothing) i.same c.in-Nothing.ensures.sends) in
    record {
      encounter = c.in-Nothing.ensures.encounter ∙ i.same;
      fills = fills-on air c.args.state.now.journal c.loop.state.journal c.send.new.self.journal i.fills g.fills;
      after = g.after;
    }
