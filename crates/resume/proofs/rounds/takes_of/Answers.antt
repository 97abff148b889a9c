use Rattle.std.proofs.Common.{◌≡◌, ◌+◌, ◌-◌, ◌<◌, ◌≤◌, length, sym, ap, ◌∙◌, subst, arith}
use Rattle.acas_base.specs.Encounter.{IsEncounter, Parts}
use Rattle.air_journal.proofs.Bounds.{fits}
use Rattle.air_journal.specs.Airs.{air_of}
use Rattle.air_journal.specs.Calls.{Takes}
use Rattle.air_journal.specs.declared.answers.Took.TheVariants as took
use Rattle.air_rules.specs.Length.{most_entries}
use Rattle.air_rules.specs.Rules.{IsLegal}
use Rattle.craft_view.specs.Kept.{IsActive}
use Rattle.air_journal.proofs.Activity.{to-active, told-active}
use Rattle.resume.proofs.Turns.{fills-on, taken-all, taken-one, takes-skip}
use Rattle.resume.specs.Filling.{unfilled}
use Rattle.resume.proofs.rounds.takes_of.Goals as goal

pub returns-then-not-is_active : goal.returns-then-not-is_active
returns-then-not-is_active c = record {
  encounter = c.requires.same;
  fills = unfilled;
  after = takes-skip (air_of c.args.enc.now) c.args.state.now.journal c.args.own c.args.rounds (told-active c.args.enc.now c.args.own c.is_active.result c.is_active.ensures ∙ c.if-not-is_active.true) c.requires.before;
}

pub loop-init : goal.loop-init
loop-init c = record {
  same = c.requires.same;
  valid = subst IsEncounter c.requires.same c.legal_law.ensures.valid;
  legal = subst (λ (e : Parts). IsLegal (air_of e) c.args.state.now.journal) c.requires.same c.legal_law.ensures.legal;
  active = to-active c.args.enc.now c.args.own (told-active c.args.enc.now c.args.own c.is_active.result c.is_active.ensures ∙ c.if-not-is_active.false);
  fills = unfilled;
  before = c.requires.before;
}

pub loop-preserved : goal.loop-preserved
loop-preserved c =
    let i = c.loop.invariant in
    let air = air_of c.args.enc.now in
    let s = subst (λ (e : Parts). Takes (air_of e) c.loop.state.journal c.args.own c.take.new.self.journal (took.Done c.in-Done.field-0 c.in-Done.field-1)) c.loop.invariant.same c.in-Done.ensures.takes in
    let g = taken-one air c.loop.state.journal c.take.new.self.journal c.args.own c.args.rounds c.in-Done.field-0 c.in-Done.field-1 i.before s in
    record {
      same = c.in-Done.ensures.encounter ∙ i.same;
      valid = i.valid;
      legal = subst (λ (e : Parts). IsLegal (air_of e) c.take.new.self.journal) (c.in-Done.ensures.encounter ∙ i.same) c.in-Done.ensures.legal;
      active = i.active;
      fills = fills-on air c.args.state.now.journal c.loop.state.journal c.take.new.self.journal i.fills g.fills;
      before = g.after;
    }

pub loop-smaller : goal.loop-smaller
loop-smaller c =
    let i = c.loop.invariant in
    let air = air_of c.args.enc.now in
    let s = subst (λ (e : Parts). Takes (air_of e) c.loop.state.journal c.args.own c.take.new.self.journal (took.Done c.in-Done.field-0 c.in-Done.field-1)) c.loop.invariant.same c.in-Done.ensures.takes in
    let m = ap length s.took.new_is in
    let n : length c.take.new.self.journal ≡ length c.loop.state.journal + 1 = omega arith in
    let legal : IsLegal air c.take.new.self.journal = subst (λ (e : Parts). IsLegal (air_of e) c.take.new.self.journal) (c.in-Done.ensures.encounter ∙ i.same) c.in-Done.ensures.legal in
    let few : length c.take.new.self.journal ≤ most_entries air = fits c.args.enc.now c.take.new.self.journal i.valid legal in
    let less : most_entries air - length c.take.new.self.journal < most_entries air - length c.loop.state.journal = omega arith in
    less

pub take-requires : goal.take-requires
take-requires c = subst (λ (e : Parts). IsActive e c.args.own) (sym c.loop.invariant.same) c.loop.invariant.active

pub returns-in-Nothing : goal.returns-in-Nothing
returns-in-Nothing c =
    let i = c.loop.invariant in
    let air = air_of c.args.enc.now in
    let g = taken-all air c.loop.state.journal c.take.new.self.journal c.args.own c.args.rounds i.before
    (subst (λ (e : Parts). Takes (air_of e) c.loop.state.journal c.args.own c.take.new.self.journal took.Nothing) i.same c.in-Nothing.ensures.takes) in
    record {
      encounter = c.in-Nothing.ensures.encounter ∙ i.same;
      fills = fills-on air c.args.state.now.journal c.loop.state.journal c.take.new.self.journal i.fills g.fills;
      after = g.after;
    }
