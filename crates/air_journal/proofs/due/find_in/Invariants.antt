use Rattle.std.proofs.Common.{take}
use Rattle.air_journal.specs.Found.{NotDueIn}
use Rattle.air_journal.proofs.due.find_in.Given as goal

abbrev pub invariant-loop-place : goal.invariant-loop-place
invariant-loop-place l = NotDueIn (take l.place l.queue) l.made l.send l.copy
