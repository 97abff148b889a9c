use Rattle.std.proofs.Common.{FitsSigned, pos, ◌-ℤ◌, rules, w64}
use Rattle.std.proofs.lemmas.Int.{to_z-of_z}
use Rattle.variants.proofs.drawn.place_behind.Goals as goal

pub returns-clause-value : goal.returns-clause-value
returns-clause-value c =
    let fits : FitsSigned w64 c.args.cycle = search rules in
    let seconds : FitsSigned w64 (c.args.cycle -ℤ pos 600) = search rules in
    rw (c.position-last.ensures.value, c.leg_from-leg.ensures.value, to_z-of_z w64 c.args.cycle fits, to_z-of_z w64 (c.args.cycle -ℤ pos 600) seconds) at c.carried_on.ensures.value
