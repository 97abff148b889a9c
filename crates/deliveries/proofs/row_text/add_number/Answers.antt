use Rattle.std.proofs.Common.{decimal, length, length-append, ap, arith}
use Rattle.std.proofs.lemmas.Fmt.{length-decimal-le}
use Rattle.deliveries.proofs.row_text.add_number.Goals as goal

pub returns-clause-short : goal.returns-clause-short
returns-clause-short c =
    let added = ap length c.u16.ensures.added in
    let both = length-append c.args.line.now (decimal c.args.number) in
    let few = c.requires.few in
    let digits = length-decimal-le 3 c.args.number (omega arith) (omega arith) (omega arith) in
    omega arith
