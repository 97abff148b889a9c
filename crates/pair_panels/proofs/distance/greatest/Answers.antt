use Rattle.std.proofs.Common.{◌≡◌, suc, ◌+◌, ◌-◌, ap, ap₂, ◌∙◌, arith}
use Rattle.std.specs.Prelude.{max}
use Rattle.pair_panels.specs.Distances.{distance_in, greatest}
use Rattle.pair_panels.proofs.distance.greatest.Goals as goal

pub loop-cycle-preserved : goal.loop-cycle-preserved
loop-cycle-preserved c =
    let e = c.args.encounter.now in
    let d = c.args.distance in
    let p = c.args.pair in
    let n = c.loop-cycle.cycle - 1 in
    let here : c.loop-cycle.cycle ≡ suc n = omega arith in
    let next : suc n ≡ (c.loop-cycle.cycle + 1) - 1 = omega arith in
    let value = c.distance_in.ensures.value ∙ ap (distance_in e d p) here in
    (c.larger-most.ensures.value ∙ ap₂ max c.loop-cycle.invariant.0 value ∙ ap (greatest e d p c.args.least) next, c.larger-most.ensures.near)
