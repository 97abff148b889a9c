use Rattle.std.proofs.Common.{◌≡◌, ◌+◌, length, subst, arith}
use Rattle.outcomes.specs.Nearest.{IsFoundBelow, place_of_pair}
use Rattle.outcomes.proofs.Seeking.{row-done}
use Rattle.outcomes.proofs.nearest.found_with_all.Goals as goal

pub loop-b-preserved : goal.loop-b-preserved
loop-b-preserved c =
    let next : place_of_pair c.args.a c.loop-b.b + 1 ≡ place_of_pair c.args.a (c.loop-b.b + 1) = omega arith in
    subst (λ n. IsFoundBelow c.args.encounter.now n c.found_with-so_far.result) next c.found_with-so_far.ensures

pub returns : goal.returns
returns c =
    let e = c.args.encounter.now in
    let all : c.loop-b.b ≡ length e.crafts = omega (arith, c.requires.crafts, c.loop-b.auto.b-end, c.loop-b-test.false, c.requires.a) in
    row-done e c.args.a c.loop-b.so_far (omega (arith, c.requires.crafts, c.requires.a)) (omega (arith, c.requires.crafts, c.requires.few))
    (subst (λ n. IsFoundBelow e (place_of_pair c.args.a n) c.loop-b.so_far) all c.loop-b.invariant)
