use Rattle.acas_top.proofs.OneWord.{other-than-scopes}
use Rattle.acas_top.proofs.words.scope_of.Goals as goal

pub returns-clause-none : goal.returns-clause-none
returns-clause-none c = other-than-scopes c.args.word.now c.if-eq.ensures c.if-eq-2.ensures
