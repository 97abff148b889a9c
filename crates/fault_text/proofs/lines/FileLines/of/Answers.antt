use Rattle.std.proofs.Common.{arith, false}
use Rattle.fault_text.proofs.FewLines.{few-lines}
use Rattle.fault_text.proofs.lines.FileLines.of.Goals as goal

pub returns-clause-few : goal.returns-clause-few
returns-clause-few c = let lines = few-lines false c.unmarked.result.now in omega (arith, c.unmarked.ensures.short)
