use Rattle.rec_audit.proofs.OneVerdict.{judged-once, loaded-once, part-once}
use Rattle.rec_audit.proofs.laws.verdict_law.Goals as goal

pub returns-clause-verdict : goal.returns-clause-verdict
returns-clause-verdict c = λ bytes one two a b. judged-once bytes one two c.canonical_text_law.ensures a b

pub returns-clause-loaded : goal.returns-clause-loaded
returns-clause-loaded c = λ bytes one two a b. loaded-once bytes one two c.canonical_text_law.ensures a b

pub returns-clause-part : goal.returns-clause-part
returns-clause-part c = λ bytes one two a b. part-once bytes one two c.canonical_text_law.ensures a b
