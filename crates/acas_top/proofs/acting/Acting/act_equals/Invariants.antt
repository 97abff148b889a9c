use Rattle.acas_top.specs.Possible.{StaysFound}
use Rattle.acas_top.proofs.acting.Acting.act_equals.Given as goal

-- The same is found of the same run.
abbrev pub invariant-loop-other : goal.invariant-loop-other
invariant-loop-other l = StaysFound l.fn.self l.self
