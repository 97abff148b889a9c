use Rattle.std.proofs.Common.{◌≡◌}
use Rattle.air_journal.specs.Airs.{air_of}
use Rattle.air_rules.specs.Journal.{commits}
use Rattle.rec_audit.proofs.Making.{Reaches}
use Rattle.craft_view.specs.Looking.{AreReady}
use Rattle.rec_audit.proofs.replay.replay.Given as goal

-- So many lines were those of entries.
abbrev pub invariant-loop : goal.invariant-loop
invariant-loop l = record {
  encounter : l.state.encounter ≡ l.fn.state.encounter;
  places : l.places.encounter ≡ l.fn.state.encounter;
  ready : AreReady l.fn.state.encounter (commits l.state.journal) l.surveillance.crafts;
  reaches : Reaches (air_of l.fn.state.encounter) l.fn.lines l.lines l.counter l.state.journal;
}
