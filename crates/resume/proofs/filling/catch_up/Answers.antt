use Rattle.std.proofs.Common.{◌-◌, ◌<◌, ◌≤◌, List, length, sym, subst, arith}
use Rattle.acas_base.specs.Encounter.{IsEncounter, Parts}
use Rattle.acas_base.specs.declared.entry.Entry.{Entry}
use Rattle.air_journal.proofs.Bounds.{fits}
use Rattle.air_journal.specs.Airs.{air_of}
use Rattle.air_rules.specs.Length.{most_entries}
use Rattle.air_rules.specs.Rules.{IsLegal}
use Rattle.resume.specs.Filling.{Fills, unfilled}
use Rattle.std.proofs.lemmas.Bool.{MatchBool-at_false, MatchBool-at_true}
use Rattle.resume.proofs.Filled.{fills-step, legal-step, longer-step}
use Rattle.resume.proofs.filling.catch_up.Goals as goal

pub loop-init : goal.loop-init
loop-init c = record {
  same = c.requires.same;
  valid = subst IsEncounter c.requires.same c.legal_law.ensures.valid;
  legal = subst (λ (e : Parts). IsLegal (air_of e) c.args.state.now.journal) c.requires.same c.legal_law.ensures.legal;
  ready = c.requires.ready;
  fills = unfilled;
}

pub loop-preserved : goal.loop-preserved
loop-preserved c =
    let i = c.loop.invariant in
    let air = air_of c.args.enc.now in
    let s = MatchBool-at_true _ _ c.if-not-step.false c.step.ensures.stepped in
    record {
      same = c.step.ensures.encounter;
      valid = i.valid;
      legal = legal-step air c.loop.state.journal c.step.new.state.journal i.legal s;
      ready = c.step.ensures.ready;
      fills = fills-step air c.args.state.now.journal c.loop.state.journal c.step.new.state.journal i.fills s;
    }

pub loop-smaller : goal.loop-smaller
loop-smaller c =
    let i = c.loop.invariant in
    let air = air_of c.args.enc.now in
    let s = MatchBool-at_true _ _ c.if-not-step.false c.step.ensures.stepped in
    let n = longer-step air c.loop.state.journal c.step.new.state.journal s in
    let few : length c.step.new.state.journal ≤ most_entries air = fits c.args.enc.now c.step.new.state.journal i.valid (legal-step air c.loop.state.journal c.step.new.state.journal i.legal s) in
    let less : most_entries air - length c.step.new.state.journal < most_entries air - length c.loop.state.journal = omega arith in
    less

pub returns-then-not-step : goal.returns-then-not-step
returns-then-not-step c =
    let i = c.loop.invariant in
    let r = MatchBool-at_false _ _ c.if-not-step.true c.step.ensures.stepped in
    record {
      encounter = c.step.ensures.encounter;
      fills = subst (λ (J : List Entry). Fills (air_of c.args.enc.now) c.args.state.now.journal J) (sym r.1) i.fills;
      ready = c.step.ensures.ready;
      rest = r.0;
    }
