use Rattle.std.proofs.Common.{arith}
use Rattle.rec_text.proofs.Reporting.{few-lines}
use Rattle.rec_text.proofs.report.report_count.Goals as goal

pub returns : goal.returns
returns c = c.count_lines.ensures (let few = few-lines c.args.state.now.encounter c.args.state.now.journal c.legal_law.ensures.valid in omega (arith, few))
