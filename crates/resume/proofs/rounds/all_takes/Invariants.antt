use Rattle.std.proofs.Common.{◌≡◌}
use Rattle.air_journal.specs.Airs.{air_of}
use Rattle.resume.specs.Filling.{Fills}
use Rattle.resume.specs.Phases.{BeforeTakes}
use Rattle.resume.proofs.rounds.all_takes.Given as goal

abbrev pub invariant-loop-own : goal.invariant-loop-own
invariant-loop-own l = record {
  same : l.state.encounter ≡ l.enc;
  fills : Fills (air_of l.enc) l.fn.state.journal l.state.journal;
  before : BeforeTakes (air_of l.enc) l.state.journal l.own l.rounds;
}
