use Rattle.std.proofs.Common.{◌∙◌, None, ap, subst, sym}
use Rattle.std.specs.Prelude.{fold}
use Rattle.std.proofs.lemmas.List.{take_all}
use Rattle.acas_base.specs.Encounter.{AreRates}
use Rattle.flight.specs.Flight.{later}
use Rattle.variants.proofs.Flown.{flown-rates, last-all}
use Rattle.variants.specs.Drawn.{begun_legs}
use Rattle.variants.proofs.drawn.leg_from.Goals as goal

pub returns-clause-value : goal.returns-clause-value
returns-clause-value c =
    c.unwrap_or.ensures
    ∙ last-all c.args.encounter.now c.args.craft c.args.cycle c.loop-index.last
    (c.loop-index.invariant ∙ ap (λ l. fold later None (begun_legs c.args.craft c.args.cycle l)) (take_all c.loop-index.index c.legs-legs.result.now c.loop-index-test.false ∙ c.legs-legs.ensures.value))

pub returns-clause-rates : goal.returns-clause-rates
returns-clause-rates c =
    let value = c.unwrap_or.ensures
    ∙ last-all c.args.encounter.now c.args.craft c.args.cycle c.loop-index.last
    (c.loop-index.invariant ∙ ap (λ l. fold later None (begun_legs c.args.craft c.args.cycle l)) (take_all c.loop-index.index c.legs-legs.result.now c.loop-index-test.false ∙ c.legs-legs.ensures.value)) in
    subst AreRates (sym value) (flown-rates c.args.encounter.now c.args.craft c.args.cycle c.legs-legs.ensures.valid)
