use Rattle.acas_top.specs.Possible.{StaysFound}
use Rattle.acas_top.proofs.acting.Acting.act_words.Given as goal

-- The same is found of the same run.
abbrev pub invariant-loop-word : goal.invariant-loop-word
invariant-loop-word l = StaysFound l.fn.self l.self
