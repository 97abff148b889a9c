use Rattle.std.proofs.Common.{◌≡◌, ◌-◌, length}
use Rattle.acas_base.specs.Encounter.{IsEncounter}
use Rattle.air_journal.specs.Airs.{air_of}
use Rattle.air_rules.specs.Journal.{commits}
use Rattle.air_rules.specs.Length.{most_entries}
use Rattle.air_rules.specs.Rules.{IsLegal}
use Rattle.craft_view.specs.Looking.{AreReady}
use Rattle.resume.specs.Filling.{Fills}
use Rattle.resume.proofs.filling.catch_up.Given as goal

abbrev pub invariant-loop : goal.invariant-loop
invariant-loop l = record {
  same : l.state.encounter ≡ l.enc;
  valid : IsEncounter l.enc;
  legal : IsLegal (air_of l.enc) l.state.journal;
  ready : AreReady l.enc (commits l.state.journal) l.surveillance.crafts;
  fills : Fills (air_of l.enc) l.fn.state.journal l.state.journal;
}

abbrev pub decreases-loop : goal.decreases-loop
decreases-loop l = most_entries (air_of l.enc) - length l.state.journal
