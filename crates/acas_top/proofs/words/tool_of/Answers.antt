use Rattle.acas_top.proofs.OneWord.{other-than-tools}
use Rattle.acas_top.proofs.words.tool_of.Goals as goal

pub returns-clause-none : goal.returns-clause-none
returns-clause-none c = other-than-tools c.args.word.now c.if-eq.ensures c.if-eq-2.ensures c.if-eq-3.ensures c.if-eq-4.ensures c.if-eq-5.ensures c.if-eq-6.ensures c.if-eq-7.ensures c.if-eq-8.ensures
