use Rattle.std.proofs.Common.{arith}
use Rattle.acas_lines.proofs.Splitting.{few-lines}
use Rattle.rec_audit.proofs.lines.TextLines.second.Goals as goal

pub invariant_of-result : goal.invariant_of-result
invariant_of-result c = omega (arith, few-lines c.args.text.now, c.requires)
