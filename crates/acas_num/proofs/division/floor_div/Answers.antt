use Rattle.std.proofs.Common.{w64, FitsSigned, rules}
use Rattle.std.proofs.lemmas.Int.{to_z-of_z}
use Rattle.acas_num.proofs.Quotients.{quotient}
use Rattle.acas_num.proofs.division.floor_div.Goals as goal

pub returns-clause-rounded_down : goal.returns-clause-rounded_down
returns-clause-rounded_down c =
    let fits : FitsSigned w64 c.div_euclid.result = search rules in
    rw (to_z-of_z w64 c.div_euclid.result fits, c.div_euclid.ensures, to_z-of_z w64 c.args.a c.ranges.a, to_z-of_z w64 c.args.b c.ranges.b)
    (quotient c.args.a c.args.b (search rules))
