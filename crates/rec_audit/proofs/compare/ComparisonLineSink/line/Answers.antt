use Rattle.rec_audit.proofs.Comparing.{compared-one}
use Rattle.rec_audit.proofs.compare.ComparisonLineSink.line.Goals as goal

pub returns-then-not-self : goal.returns-then-not-self
returns-then-not-self c =
    compared-one c.args.self.now.lines c.take_line.new.self c.args.line.now c.args.self.now.differs c.take_line.result c.if-not-self.true (rw (c.bytes.ensures.bytes) at c.take_line.ensures)
