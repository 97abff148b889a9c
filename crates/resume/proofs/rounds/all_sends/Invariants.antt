use Rattle.std.proofs.Common.{◌≡◌}
use Rattle.air_journal.specs.Airs.{air_of}
use Rattle.resume.specs.Filling.{Fills}
use Rattle.resume.specs.Phases.{BeforeSends}
use Rattle.resume.proofs.rounds.all_sends.Given as goal

abbrev pub invariant-loop-own : goal.invariant-loop-own
invariant-loop-own l = record {
  same : l.state.encounter ≡ l.enc;
  fills : Fills (air_of l.enc) l.fn.state.journal l.state.journal;
  before : BeforeSends (air_of l.enc) l.state.journal l.own l.rounds;
}
