use Rattle.std.proofs.Common.{◌≡◌, arith, subst}
use Rattle.flight.proofs.Nearest.{closest-is}
use Rattle.flight.specs.Approach.{IsFirstLeast, range_between}
use Rattle.flight.proofs.approach.closest_approach.Goals as goal

pub returns-clause-cycle : goal.returns-clause-cycle
returns-clause-cycle c =
    let e = c.args.encounter.now in
    let run = c.cycles-earlier-end.ensures.valid.run.length.0 in
    let end : c.loop-earlier.earlier ≡ e.cycles = omega (arith, run, c.cycles-earlier-end.ensures.value, c.loop-earlier.auto.earlier, c.loop-earlier.auto.earlier-end, c.loop-earlier-test.false) in
    closest-is e c.args.a c.args.b c.loop-earlier.cycle
    (subst (λ n. IsFirstLeast (range_between e c.args.a c.args.b) n c.loop-earlier.cycle) end c.loop-earlier.invariant.closest)
