use Rattle.acas_top.specs.Possible.{StaysFound}
use Rattle.acas_top.proofs.acting.Acting.act_all.Given as goal

-- The same is found of the same run.
abbrev pub invariant-loop-own : goal.invariant-loop-own
invariant-loop-own l = StaysFound l.fn.self l.self
