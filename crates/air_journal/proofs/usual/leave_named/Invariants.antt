use Rattle.air_journal.specs.Usual.{AreUnnamed}
use Rattle.air_journal.proofs.usual.leave_named.Given as goal

abbrev pub invariant-loop-at : goal.invariant-loop-at
invariant-loop-at l = AreUnnamed l.encounter l.at l.fates.items
