use Rattle.std.proofs.Common.{◌≡◌, suc, ◌+◌, ◌-◌, ap, ap₂, ◌∙◌, arith}
use Rattle.flight.specs.Flight.{position}
use Rattle.plan_panel.specs.Places.{over_cycles, with_place}
use Rattle.plan_panel.proofs.extent.over_cycles.Goals as goal

pub loop-cycle-preserved : goal.loop-cycle-preserved
loop-cycle-preserved c =
    let e = c.args.encounter.now in
    let own = c.args.own in
    let n = c.loop-cycle.cycle - 1 in
    let here : c.loop-cycle.cycle ≡ suc n = omega arith in
    let next : suc n ≡ (c.loop-cycle.cycle + 1) - 1 = omega arith in
    let place = c.position.ensures.value ∙ ap (position e own) here in
    (c.with_place-extent.ensures.value ∙ ap₂ with_place c.loop-cycle.invariant.0 place ∙ ap (over_cycles e own c.args.before) next, c.with_place-extent.ensures.near)
