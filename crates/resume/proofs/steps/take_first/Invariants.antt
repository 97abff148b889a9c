use Rattle.std.proofs.Common.{◌≡◌}
use Rattle.air_journal.specs.Airs.{air_of}
use Rattle.resume.specs.Steps.{NoneIsDue}
use Rattle.resume.proofs.steps.take_first.Given as goal

abbrev pub invariant-loop-own : goal.invariant-loop-own
invariant-loop-own l = record { same : l.state.encounter ≡ l.enc; journal : l.state.journal ≡ l.fn.state.journal; none : NoneIsDue (air_of l.enc) l.fn.state.journal l.own }
