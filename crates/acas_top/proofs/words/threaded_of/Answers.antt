use Rattle.acas_top.proofs.OneWord.{other-than-runs}
use Rattle.acas_top.proofs.words.threaded_of.Goals as goal

pub returns-clause-none : goal.returns-clause-none
returns-clause-none c = other-than-runs c.args.word.now c.if-eq.ensures c.if-eq-2.ensures
