use Rattle.std.proofs.Common.{FitsSigned, pos, ◌-ℤ◌, rules, w64}
use Rattle.std.proofs.lemmas.Int.{to_z-of_z}
use Rattle.variants.proofs.drawn.place_before.Goals as goal

pub returns-clause-value : goal.returns-clause-value
returns-clause-value c =
    let fits : FitsSigned w64 c.args.cycle = search rules in
    let seconds : FitsSigned w64 (c.args.cycle -ℤ pos 1) = search rules in
    rw (c.position-start.ensures.value, c.leg_from-leg.ensures.value, to_z-of_z w64 c.args.cycle fits, to_z-of_z w64 (c.args.cycle -ℤ pos 1) seconds) at c.carried_on.ensures.value
