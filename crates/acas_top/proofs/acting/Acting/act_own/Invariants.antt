use Rattle.acas_top.specs.Possible.{StaysFound}
use Rattle.acas_top.proofs.acting.Acting.act_own.Given as goal

-- The same is found of the same run.
abbrev pub invariant-loop-after : goal.invariant-loop-after
invariant-loop-after l = StaysFound l.fn.self l.self
