use Rattle.air_journal.specs.Airs.{air_of}
use Rattle.resume.specs.Steps.{SlowestSoFar}
use Rattle.resume.proofs.steps.slowest.Given as goal

abbrev pub invariant-loop-own : goal.invariant-loop-own
invariant-loop-own l = SlowestSoFar (air_of l.enc) l.state.journal l.own l.best
