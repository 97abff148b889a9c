use Rattle.advisory_report.proofs.Stretching.{begins, goes-on}
use Rattle.advisory_report.proofs.stretches.Stretch.with.Goals as goal

pub returns-then-has_same_word-clause-row : goal.returns-then-has_same_word-clause-row
returns-then-has_same_word-clause-row c all is e = goes-on all c.args.self.now c.args.next is e (c.has_same_word.ensures.0 c.if-has_same_word.true)

pub returns-clause-row : goal.returns-clause-row
returns-clause-row c all is e = begins all c.args.self.now c.args.next is e (λ same. absurd (let f = c.has_same_word.ensures.1 same in let g = c.if-has_same_word.false in cc))
