use Rattle.std.proofs.Common.{◌≡◌, ◌-◌, ℤ, ◌+ℤ◌, ◌-ℤ◌, unsigned_abs, rules, w64, ◌∙◌, ap, ap₂}
use Rattle.std.proofs.lemmas.Int.{to_z-of_z}
use Rattle.project.specs.Gained.{toward}
use Rattle.project.proofs.Mirrored.{unmoved-and-gained}
use Rattle.project.proofs.projection.sum_of_rates.Goals as goal

pub returns-clause-value : goal.returns-clause-value
returns-clause-value c =
    let sum = to_z-of_z w64 c.sum.result (search rules) in
    let unmoved = to_z-of_z w64 c.unmoved.result (search rules) in
    let toward_goal = to_z-of_z w64 c.amount_toward.result (search rules) in
    let v = to_z-of_z w64 c.args.v c.ranges.v in
    let goal_rate = to_z-of_z w64 c.args.goal c.ranges.goal in
    let step = to_z-of_z w64 c.args.step c.ranges.step in
    let distance : c.abs_diff.result ≡ unsigned_abs (c.args.v -ℤ c.args.goal) = rw (v, goal_rate) at c.abs_diff.ensures in
    let size : c.unsigned_abs.result ≡ unsigned_abs c.args.step = rw step at c.unsigned_abs.ensures.value in
    let moves : c.from-2.result ≡ c.args.halves - c.args.delay = c.from-2.ensures ∙ c.saturating_sub-moves.ensures ∙ ap (λ k. c.args.halves - k) c.from.ensures in
    let gained = rw (distance, size, moves) at c.sum_gained-gained.ensures.value in
    sum
    ∙ c.sum.ensures.value
    ∙ ap₂ (λ (x y : ℤ). x +ℤ y) (unmoved ∙ rw v at c.unmoved.ensures.value) (toward_goal ∙ (rw (v, goal_rate) at c.amount_toward.ensures.value) ∙ ap (toward c.args.v c.args.goal) gained)
    ∙ unmoved-and-gained c.args.v c.args.goal c.args.step c.args.delay c.args.halves c.requires.forward
