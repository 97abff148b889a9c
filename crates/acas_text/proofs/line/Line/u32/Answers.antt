use Rattle.std.proofs.Common.{arith}
use Rattle.std.proofs.lemmas.Fmt.{length-decimal-le}
use Rattle.acas_text.proofs.line.Line.u32.Goals as goal

pub number-requires-clause-room : goal.number-requires-clause-room
number-requires-clause-room c = omega (arith, c.requires, length-decimal-le 10 c.from.result (omega arith) (omega (arith, c.from.ensures)) (omega (arith, c.from.ensures)))

pub returns-clause-short : goal.returns-clause-short
returns-clause-short c = omega (arith, c.number.ensures.longer, length-decimal-le 10 c.from.result (omega arith) (omega (arith, c.from.ensures)) (omega (arith, c.from.ensures)))
