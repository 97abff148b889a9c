use Rattle.air_journal.proofs.Finding.{Best}
use Rattle.air_journal.proofs.due.first_due_to.Given as goal

abbrev pub invariant-loop-sender : goal.invariant-loop-sender
invariant-loop-sender l = Best l.tables l.own l.made l.sender l.best
