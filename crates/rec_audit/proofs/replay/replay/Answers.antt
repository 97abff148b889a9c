use Rattle.std.proofs.Common.{◌∙◌, sym, subst, refl, arith}
use Rattle.acas_base.specs.Encounter.{Parts}
use Rattle.acas_base.specs.declared.entry.Entry.{Entry}
use Rattle.std.proofs.Common.{List}
use Rattle.air_journal.specs.Airs.{air_of}
use Rattle.air_rules.specs.Journal.{commits}
use Rattle.rec_audit.proofs.Making.{reaches-more, reaches-none, stopped-at}
use Rattle.craft_view.specs.Looking.{AreReady}
use Rattle.rec_audit.proofs.replay.replay.Goals as goal

pub loop-init : goal.loop-init
loop-init c = record {
  encounter = refl;
  places = c.requires.same;
  ready = subst (λ (K : List Entry). AreReady c.args.state.now.encounter (commits K) c.args.surveillance.now.crafts) (sym c.requires.empty) c.requires.ready;
  reaches = reaches-none (air_of c.args.state.now.encounter) c.args.lines.now c.args.state.now.journal c.requires.empty;
}

pub loop-preserved : goal.loop-preserved
loop-preserved c =
    let i = c.loop.invariant in
    let added = rw (i.encounter) at c.in_default.ensures.added in
    record {
      encounter = c.add_next.ensures.encounter ∙ i.encounter;
      places = c.add_next.ensures.places ∙ i.encounter;
      ready = subst (λ (e : Parts). AreReady e (commits c.add_next.new.state.journal) c.add_next.new.surveillance.crafts) i.encounter c.in_default.ensures.ready;
      reaches = reaches-more (air_of c.args.state.now.encounter) c.args.lines.now c.loop.lines c.add_next.new.lines c.loop.counter c.loop.state.journal c.add_next.new.state.journal i.reaches added;
    }

pub returns-in-Err-clause-replayed : goal.returns-in-Err-clause-replayed
returns-in-Err-clause-replayed c =
    let i = c.loop.invariant in
    let wrong = rw (i.encounter) at c.in-Err.ensures.added in
    stopped-at (air_of c.args.state.now.encounter) c.args.lines.now c.loop.lines c.loop.counter c.args.most c.loop.state.journal _ i.reaches (λ e. let done = c.is_done.ensures.1 e in absurd cc) (omega arith) c.number-line.ensures wrong
