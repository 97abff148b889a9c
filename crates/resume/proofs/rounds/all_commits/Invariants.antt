use Rattle.std.proofs.Common.{◌≡◌}
use Rattle.air_journal.specs.Airs.{air_of}
use Rattle.air_rules.specs.Journal.{commits}
use Rattle.craft_view.specs.Looking.{AreReady}
use Rattle.resume.specs.Filling.{Fills}
use Rattle.resume.specs.Phases.{BeforeCommit}
use Rattle.resume.proofs.rounds.all_commits.Given as goal

abbrev pub invariant-loop-own : goal.invariant-loop-own
invariant-loop-own l = record {
  same : l.state.encounter ≡ l.enc;
  fills : Fills (air_of l.enc) l.fn.state.journal l.state.journal;
  ready : AreReady l.enc (commits l.state.journal) l.surveillance.crafts;
  before : BeforeCommit (air_of l.enc) l.state.journal l.own l.done;
}
