use Rattle.std.proofs.Common.{FitsSigned, arith, rules, w32}
use Rattle.std.proofs.lemmas.Int.{ints, to_z-of_z}
use Rattle.variants.proofs.drawn.carried_on.Goals as goal

pub moved-requires-3-clause-rate : goal.moved-requires-3-clause-rate
moved-requires-3-clause-rate c =
    let fits : FitsSigned w32 c.args.leg.vz = search rules in
    rw (to_z-of_z w32 c.args.leg.vz fits) (omega (arith, ints, c.requires.rates.vz.0, c.requires.rates.vz.1))
