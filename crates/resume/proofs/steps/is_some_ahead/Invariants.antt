use Rattle.air_journal.specs.Airs.{air_of}
use Rattle.resume.specs.Steps.{NobodyAhead}
use Rattle.resume.proofs.steps.is_some_ahead.Given as goal

abbrev pub invariant-loop-own : goal.invariant-loop-own
invariant-loop-own l = NobodyAhead (air_of l.enc) l.state.journal l.made l.own
