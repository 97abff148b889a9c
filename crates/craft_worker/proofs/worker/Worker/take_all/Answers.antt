use Rattle.craft_worker.proofs.Counting.{takes-then}
use Rattle.craft_worker.proofs.Working.{goes-after, goes-self}
use Rattle.craft_worker.proofs.worker.Worker.take_all.Goals as goal

pub loop-call-init : goal.loop-call-init
loop-call-init g c = goes-self _ _ _ c.requires

pub take-requires : goal.take-requires
take-requires g c = record { of = c.loop-call.invariant.goes_on.ready.is.seat }

pub returns-in-Nothing : goal.returns-in-Nothing
returns-in-Nothing g c = goes-after _ _ _ c.loop-call.self c.take.new.seat c.loop-call.invariant c.take.ensures.same (takes-then _ _ _ c.take.ensures)

pub loop-call-preserved : goal.loop-call-preserved
loop-call-preserved g c = goes-after _ _ _ c.loop-call.self c.take.new.seat c.loop-call.invariant c.take.ensures.same (takes-then _ _ _ c.take.ensures)
