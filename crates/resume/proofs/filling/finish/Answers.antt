use Rattle.std.proofs.Common.{◌≡◌, ℕ, sym, ap, subst, arith}
use Rattle.acas_base.specs.Encounter.{IsEncounter, Parts}
use Rattle.air_journal.proofs.Soundness.{sound-of}
use Rattle.air_journal.specs.Airs.{air_of}
use Rattle.resume.proofs.Turns.{fills-on, from-idle, over}
use Rattle.resume.specs.Filling.{unfilled}
use Rattle.resume.specs.Phases.{BeforeCommit}
use Rattle.flight.specs.Flight.{Moment}
use Rattle.air_rules.proofs.Waiting.{commits-within}
use Rattle.air_rules.specs.Journal.{commits}
use Rattle.resume.proofs.Filled.{level-at-rest, none-next}
use Rattle.resume.proofs.filling.finish.Goals as goal

pub loop-done-init : goal.loop-done-init
loop-done-init c =
    let e = c.args.enc.now in
    let sound = sound-of e (subst IsEncounter c.requires.same c.legal_law.ensures.valid) in
    record {
      same = c.requires.same;
      ready = c.requires.ready;
      places = ap (λ (m : Moment). m.encounter) c.new-places.ensures;
      fills = unfilled;
      before = subst (λ (n : ℕ). BeforeCommit (air_of e) c.args.state.now.journal 0 n) (sym c.commits-done.ensures)
          (from-idle (air_of e) c.args.state.now.journal (commits c.args.state.now.journal c.in-Some.own) (level-at-rest (air_of e) c.args.state.now.journal c.in-Some.own sound c.requires.rest c.in-Some.ensures) c.requires.rest.idle);
    }

pub loop-done-preserved : goal.loop-done-preserved
loop-done-preserved c = record {
  same = c.round.ensures.encounter;
  ready = c.round.ensures.ready;
  places = c.round.ensures.places;
  fills = fills-on (air_of c.args.enc.now) c.args.state.now.journal c.loop-done.state.journal c.round.new.state.journal c.loop-done.invariant.fills c.round.ensures.fills;
  before = c.round.ensures.after;
}

pub returns-in_default-clause-filled : goal.returns-in_default-clause-filled
returns-in_default-clause-filled c =
    let sound = sound-of c.args.enc.now (subst IsEncounter c.requires.same c.legal_law.ensures.valid) in
    record { steps = unfilled; ended = none-next (air_of c.args.enc.now) c.args.state.now.journal sound c.in_default.ensures }

pub returns-clause-filled : goal.returns-clause-filled
returns-clause-filled c =
    let few = commits-within (air_of c.args.state.now.encounter) c.args.state.now.journal c.legal_law.ensures.legal c.in-Some.own in
    let same = ap (λ (e : Parts). e.cycles) c.requires.same in
    let e : c.loop-done.done ≡ c.args.enc.now.cycles = omega (arith, c.commits-done.ensures, c.cycles-done-end.ensures.value) in
    record { steps = c.loop-done.invariant.fills; ended = over (air_of c.args.enc.now) c.loop-done.state.journal (subst (λ (n : ℕ). BeforeCommit (air_of c.args.enc.now) c.loop-done.state.journal 0 n) e c.loop-done.invariant.before) }
