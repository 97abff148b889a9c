use Rattle.std.proofs.Common.{arith}
use Rattle.acas_text.proofs.Decimals.{decimal-same}
use Rattle.acas_text.proofs.decimal.parse_within.Goals as goal

pub returns-then-value-from : goal.returns-then-value-from
returns-then-value-from c = λ n within e. omega (arith, within, decimal-same n c.in-Some.value c.args.bytes.now (omega (arith, within)) (omega arith) e c.in-Some.ensures.1)
