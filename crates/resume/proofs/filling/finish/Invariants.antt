use Rattle.std.proofs.Common.{◌≡◌}
use Rattle.air_journal.specs.Airs.{air_of}
use Rattle.air_rules.specs.Journal.{commits}
use Rattle.craft_view.specs.Looking.{AreReady}
use Rattle.resume.specs.Filling.{Fills}
use Rattle.resume.specs.Phases.{BeforeCommit}
use Rattle.resume.proofs.filling.finish.Given as goal

abbrev pub invariant-loop-done : goal.invariant-loop-done
invariant-loop-done l = record {
  same : l.state.encounter ≡ l.enc;
  ready : AreReady l.enc (commits l.state.journal) l.surveillance.crafts;
  fills : Fills (air_of l.enc) l.fn.state.journal l.state.journal;
  places : l.places.encounter ≡ l.enc;
  before : BeforeCommit (air_of l.enc) l.state.journal 0 l.done;
}
