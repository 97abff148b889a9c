use Rattle.std.proofs.Common.{◌≡◌, ◌+◌, length, subst, arith}
use Rattle.outcomes.specs.Nearest.{IsFoundBelow, place_of_pair}
use Rattle.outcomes.proofs.Seeking.{all-done, none-found}
use Rattle.outcomes.proofs.nearest.nearest_approach.Goals as goal

pub loop-a-init : goal.loop-a-init
loop-a-init c = none-found c.args.encounter.now

pub loop-a-preserved : goal.loop-a-preserved
loop-a-preserved c =
    let next : c.loop-a.a + 2 ≡ c.loop-a.a + 1 + 1 = omega arith in
    subst (λ n. IsFoundBelow c.args.encounter.now (place_of_pair (c.loop-a.a + 1) n) c.found_with_all-so_far.result) next c.found_with_all-so_far.ensures

pub returns : goal.returns
returns c =
    let e = c.args.encounter.now in
    let all : c.loop-a.a ≡ length e.crafts = omega (arith, c.requires.crafts, c.loop-a.auto.a-end, c.loop-a-test.false) in
    all-done e c.loop-a.so_far (omega (arith, c.requires.crafts, c.requires.some)) (omega (arith, c.requires.crafts, c.requires.few))
    (subst (λ n. IsFoundBelow e (place_of_pair n (n + 1)) c.loop-a.so_far) all c.loop-a.invariant)
