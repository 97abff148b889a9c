use Rattle.std.proofs.Common.{take}
use Rattle.air_journal.specs.Queues.{NoneDue}
use Rattle.air_journal.proofs.due.first_due.Given as goal

abbrev pub invariant-loop-place : goal.invariant-loop-place
invariant-loop-place l = NoneDue (take l.place l.queue) l.made
