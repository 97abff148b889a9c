use Rattle.std.proofs.Common.{◌≤◌, ◌^◌, arith, mul-le-mul}
use Rattle.std.proofs.lemmas.Int.{ints}
use Rattle.flight.proofs.measuring.square.Goals as goal

pub returns-clause-bound : goal.returns-clause-bound
returns-clause-bound c =
    let far : c.unsigned_abs-distance.result ≤ 2 ^ 25 = omega (arith, ints, c.unsigned_abs-distance.ensures.value, c.requires.a, c.requires.b) in
    mul-le-mul far far
