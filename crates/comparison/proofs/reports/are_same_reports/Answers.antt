use Rattle.comparison.proofs.Apart.{decided, few-lines}
use Rattle.comparison.proofs.reports.are_same_reports.Goals as goal

pub returns : goal.returns
returns c = decided c.args.one.now c.args.other.now c.count_lines.result (c.count_lines.ensures (few-lines c.args.one.now c.args.other.now c.legal_law.ensures.valid))
