use Rattle.std.proofs.Common.{subst}
use Rattle.air_journal.specs.declared.answers.Sent.{Sent}
use Rattle.air_turn.specs.Seats.{SendsIn}
use Rattle.craft_worker.proofs.Counting.{nothing-then, sends-then}
use Rattle.craft_worker.proofs.Working.{goes-after, goes-self}
use Rattle.craft_worker.proofs.worker.Worker.send_all.Goals as goal

pub loop-call-init : goal.loop-call-init
loop-call-init g c = goes-self _ _ _ c.requires

pub send-requires : goal.send-requires
send-requires g c = record { of = c.loop-call.invariant.goes_on.ready.is.seat }

pub returns-in-Nothing-clause-same : goal.returns-in-Nothing-clause-same
returns-in-Nothing-clause-same g c = goes-after _ _ _ c.loop-call.self c.send.new.seat c.loop-call.invariant c.send.ensures.same (sends-then _ _ _ c.send.ensures)

pub returns-in-Nothing-clause-owes_nothing : goal.returns-in-Nothing-clause-owes_nothing
returns-in-Nothing-clause-owes_nothing g c =
    let Q : Sent → Type 0 = λ answer. SendsIn c.loop-call.self.seat answer c.send.new.seat in
    nothing-then _ _ _ c.loop-call.invariant.goes_on.ready.is.encounter (subst Q c.in-Nothing.is c.send.ensures)

pub loop-call-preserved : goal.loop-call-preserved
loop-call-preserved g c = goes-after _ _ _ c.loop-call.self c.send.new.seat c.loop-call.invariant c.send.ensures.same (sends-then _ _ _ c.send.ensures)
