use Rattle.air_journal.specs.Airs.{air_of}
use Rattle.air_journal.specs.Found.{NothingOwedBy}
use Rattle.air_journal.proofs.owing.first_owed.Given as goal

abbrev pub invariant-loop-target : goal.invariant-loop-target
invariant-loop-target l = NothingOwedBy (air_of l.encounter) l.tables l.own l.target
