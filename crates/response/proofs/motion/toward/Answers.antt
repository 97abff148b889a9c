use Rattle.std.proofs.Common.{◌≡◌, ◌≤◌, ◌^◌, pos, neg_ℤ, ◌-ℤ◌, unsigned_abs, to_z, of_z, w64, arith, rules, sym, ◌∙◌, subst}
use Rattle.std.proofs.lemmas.Int.{ints, to_z-of_z}
use Rattle.response.proofs.Rates.{toward-bound}
use Rattle.response.specs.Flown.{toward}
use Rattle.response.proofs.motion.toward.Goals as goal

value : (c : goal.After-sum) → c.sum.result ≡ toward c.args.goal c.args.step c.args.rate
value c =
    let goal_rate = to_z-of_z w64 c.args.goal c.ranges.goal in
    let rate = to_z-of_z w64 c.args.rate c.ranges.rate in
    let step = to_z-of_z w64 c.args.step c.ranges.step in
    let far = to_z-of_z w64 c.difference.result (search rules) ∙ (rw (goal_rate, rate) at c.difference.ensures) in
    let back : pos 0 -ℤ c.args.step ≡ neg_ℤ c.args.step = omega (arith, ints) in
    let low : to_z w64 (of_z w64 (pos 0 -ℤ c.args.step)) ≡ neg_ℤ c.args.step = to_z-of_z w64 (pos 0 -ℤ c.args.step) (search rules) ∙ back in
    let moved = to_z-of_z w64 c.clamp.result (search rules) ∙ (rw (step, low, far) at c.clamp.ensures.value) in
    rw (rate, moved) at c.sum.ensures

pub returns-clause-value : goal.returns-clause-value
returns-clause-value c = to_z-of_z w64 c.sum.result (search rules) ∙ value c

pub returns-clause-bound : goal.returns-clause-bound
returns-clause-bound c =
    subst (λ (z : _). unsigned_abs z ≤ 2 ^ 18) (sym (to_z-of_z w64 c.sum.result (search rules) ∙ value c))
    (toward-bound c.args.goal c.args.step c.args.rate c.requires.forward c.requires.goal c.requires.rate)
