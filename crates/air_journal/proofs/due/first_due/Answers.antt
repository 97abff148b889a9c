use Rattle.std.proofs.Common.{List, subst, arith}
use Rattle.std.proofs.lemmas.List.{take_all}
use Rattle.air_journal.proofs.Finding.{none-more}
use Rattle.air_journal.proofs.due.first_due.Goals as goal
use Rattle.air_journal.specs.Queues.{NoneDue}
use Rattle.air_journal.specs.declared.kept.Waiting.{Waiting}

pub loop-place-preserved : goal.loop-place-preserved
loop-place-preserved c = none-more c.args.queue.now c.args.made c.loop-place.place _ (omega arith) c.if-waiting-made.false c.loop-place.invariant

pub returns : goal.returns
returns c = subst (λ (L : List Waiting). NoneDue L c.args.made) (take_all c.loop-place.place c.args.queue.now (omega arith)) c.loop-place.invariant
