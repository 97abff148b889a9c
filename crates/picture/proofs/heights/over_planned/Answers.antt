use Rattle.std.proofs.Common.{rules, ◌≡◌, suc, ◌+◌, ◌-◌, w64, ap, ◌∙◌, arith}
use Rattle.std.proofs.lemmas.Int.{to_z-of_z}
use Rattle.picture.specs.Heights.{height_in, over_flight, with_height}
use Rattle.picture.specs.declared.span.Span.{Span}
use Rattle.picture.proofs.heights.over_planned.Goals as goal

pub loop-cycle-preserved : goal.loop-cycle-preserved
loop-cycle-preserved c =
    let e = c.args.encounter.now in
    let own = c.args.own in
    let n = c.loop-cycle.cycle - 1 in
    let here : c.loop-cycle.cycle ≡ suc n = omega arith in
    let next : suc n ≡ (c.loop-cycle.cycle + 1) - 1 = omega arith in
    let height = to_z-of_z w64 c.height_in.result (search rules) ∙ c.height_in.ensures.value ∙ ap (height_in e own) here in
    let span = c.with_height-span.ensures.value ∙ ap (with_height c.loop-cycle.span) height ∙ ap (λ (s : Span). with_height s (height_in e own (suc n))) c.loop-cycle.invariant.0 ∙ ap (over_flight (height_in e own) c.args.before) next in
    (span, (c.with_height-span.ensures.low, c.with_height-span.ensures.high))
