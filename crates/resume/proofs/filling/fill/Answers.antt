use Rattle.std.proofs.Common.{subst}
use Rattle.acas_base.specs.Encounter.{IsEncounter, Parts}
use Rattle.air_journal.proofs.Soundness.{sound-of}
use Rattle.air_journal.specs.Airs.{air_of}
use Rattle.air_rules.specs.Rules.{IsLegal}
use Rattle.resume.proofs.Turns.{fills-on}
use Rattle.resume.proofs.Filled.{ended-complete, fills-begins}
use Rattle.resume.proofs.filling.fill.Goals as goal

pub returns-clause-filled : goal.returns-clause-filled
returns-clause-filled c = record {
  steps = fills-on (air_of c.args.enc.now) c.args.state.now.journal c.catch_up.new.state.journal c.finish.new.state.journal c.catch_up.ensures.fills c.finish.ensures.filled.steps;
  ended = c.finish.ensures.filled.ended;
}

pub returns-clause-legal : goal.returns-clause-legal
returns-clause-legal c = subst (λ (e : Parts). IsLegal (air_of e) c.finish.new.state.journal) c.finish.ensures.encounter c.legal_law.ensures.legal

pub returns-clause-complete : goal.returns-clause-complete
returns-clause-complete c =
    let legal : IsLegal (air_of c.args.enc.now) c.finish.new.state.journal = subst (λ (e : Parts). IsLegal (air_of e) c.finish.new.state.journal) c.finish.ensures.encounter c.legal_law.ensures.legal in
    ended-complete (air_of c.args.enc.now) c.finish.new.state.journal (sound-of c.args.enc.now (subst IsEncounter c.finish.ensures.encounter c.legal_law.ensures.valid)) legal c.finish.ensures.filled.ended

pub returns-clause-begins : goal.returns-clause-begins
returns-clause-begins c = fills-begins (air_of c.args.enc.now) c.args.state.now.journal c.finish.new.state.journal
    (fills-on (air_of c.args.enc.now) c.args.state.now.journal c.catch_up.new.state.journal c.finish.new.state.journal c.catch_up.ensures.fills c.finish.ensures.filled.steps)
