use Rattle.std.proofs.Common.{◌≤◌, ◌^◌, unsigned_abs, w64, rules, sym, ◌∙◌, subst, ℤ}
use Rattle.std.proofs.lemmas.Int.{to_z-of_z}
use Rattle.acas_base.specs.declared.advisory.Sense.TheVariants.{Up, Down}
use Rattle.response.proofs.Rates.{asked-bound}
use Rattle.response.proofs.motion.goal_of.Goals as goal

pub returns-in-None-Some-clause-bound : goal.returns-in-None-Some-clause-bound
returns-in-None-Some-clause-bound c =
    let rate = to_z-of_z w64 c.args.rate c.ranges.rate in
    let is = to_z-of_z w64 c.asked_rate.result (search rules) ∙ (rw rate at c.asked_rate.ensures.value) in
    subst (λ (z : ℤ). unsigned_abs z ≤ 2 ^ 18) (sym is) (asked-bound Down c.in-None-Some.down c.args.rate c.requires.rate)

pub returns-in-Some-None-clause-bound : goal.returns-in-Some-None-clause-bound
returns-in-Some-None-clause-bound c =
    let rate = to_z-of_z w64 c.args.rate c.ranges.rate in
    let is = to_z-of_z w64 c.asked_rate-in-Some-None.result (search rules) ∙ (rw rate at c.asked_rate-in-Some-None.ensures.value) in
    subst (λ (z : ℤ). unsigned_abs z ≤ 2 ^ 18) (sym is) (asked-bound Up c.in-Some-None.up c.args.rate c.requires.rate)
