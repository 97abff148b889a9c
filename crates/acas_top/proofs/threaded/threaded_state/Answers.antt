use Rattle.std.proofs.Common.{sym, subst}
use Rattle.acas_base.specs.Encounter.{Parts}
use Rattle.air_journal.specs.Airs.{air_of}
use Rattle.air_rules.specs.Rules.{IsComplete}
use Rattle.craft_worker.proofs.AllWorkers.{fronts-first}
use Rattle.acas_top.proofs.threaded.threaded_state.Goals as goal

pub play-requires-clause-fronts : goal.play-requires-clause-fronts
play-requires-clause-fronts g c κs within = fronts-first _ _ _ _ _ c.in_ok-air.ensures.seats c.in_ok-state.ensures.journal

pub run_law-requires : goal.run_law-requires
run_law-requires g c =
    let closed = c.close-closed.result in
    let complete = c.played_law.ensures c.in_ok-air.air c.play.new.seats.items closed.journal c.in_ok-play.ensures.all c.in_ok-play.ensures.played c.close-closed.ensures.closes.fronts in
    subst (λ (e : Parts). IsComplete (air_of e) closed.journal) (sym c.close-closed.ensures.encounter) complete
