use Rattle.air_journal.specs.Airs.{air_of}
use Rattle.air_journal.specs.Found.{NobodyBehind}
use Rattle.air_journal.proofs.pace.first_behind.Given as goal

abbrev pub invariant-loop-craft : goal.invariant-loop-craft
invariant-loop-craft l = NobodyBehind (air_of l.encounter) l.tables l.commits l.craft
