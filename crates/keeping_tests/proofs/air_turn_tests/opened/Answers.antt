use Rattle.std.proofs.Common.{◌∙◌}
use Rattle.craft_worker.proofs.AllWorkers.{fronts-first}
use Rattle.keeping_tests.proofs.Returned.{fresh-first}
use Rattle.keeping_tests.proofs.air_turn_tests.opened.Goals as goal

pub returns-clause-fresh : goal.returns-clause-fresh
returns-clause-fresh c =
    let fronts = fronts-first _ _ _ _ _ c.in_ok-open.ensures.seats c.in_ok-state.ensures.journal in
    fresh-first c.in_ok-open.field-0.0 c.args.enc.now c.in_ok-open.field-0.1.items c.in_ok-open.ensures.all.of fronts (c.in_ok-open.ensures.air ∙ c.in_ok-state.ensures.encounter)
