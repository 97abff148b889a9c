use Rattle.std.proofs.Common.{List, subst, arith}
use Rattle.std.proofs.lemmas.List.{take_all}
use Rattle.air_journal.proofs.Finding.{not-due-more}
use Rattle.air_journal.proofs.due.find_in.Goals as goal
use Rattle.air_journal.specs.Found.{NotDueIn}
use Rattle.air_journal.specs.declared.kept.Waiting.{Waiting}

pub loop-place-preserved : goal.loop-place-preserved
loop-place-preserved c = not-due-more c.args.queue.now c.args.made c.args.send c.args.copy c.loop-place.place _ (omega arith) c.if-is_this.ensures c.loop-place.invariant

pub returns : goal.returns
returns c = subst (λ (L : List Waiting). NotDueIn L c.args.made c.args.send c.args.copy) (take_all c.loop-place.place c.args.queue.now (omega arith)) c.loop-place.invariant
